-- Names that stand in a list one after the other.
use Rattle.std.proofs.Common.{◌≡◌, refl, sym, ◌∙◌, ap, subst, List, [], ◌∷◌, ◌++◌, Bool, true, false, cond, ◌⊎◌, inl, inr}
use Rattle.std.specs.Prelude.{Option, Some, None}
use Rattle.fleet_model.specs.Work.Gates.{are_distinct}
use Rattle.fleet_model.specs.Nodes.{NodeName, name_eq}
use Rattle.fleet_model.specs.Sources.{after_front, older_nodes, or_later}
use Rattle.sched_laws.proofs.Names.{In, equal_names, in_cases, in_first, in_later, in_back, distinct_first, distinct_rest}
use Rattle.commit_laws.proofs.OtherStretches.{after_itself}

-- Names that are in a list once stand where they are, and the names after them are older.
pub stands : (front : List NodeName) (x : NodeName) (names rest : List NodeName) → are_distinct (front ++ (x ∷ names ++ rest)) ≡ true → older_nodes (x ∷ names) (front ++ (x ∷ names ++ rest)) ≡ Some rest
stands [] x names rest once = ap (λ found. or_later found (older_nodes (x ∷ names) (names ++ rest))) (after_itself (x ∷ names) rest)
stands (y ∷ front) x names rest once = by (name_eq x y) refl (stands front x names rest (distinct_rest y (front ++ (x ∷ names ++ rest)) once))
  where
    by : (b : Bool) → name_eq x y ≡ b → older_nodes (x ∷ names) (front ++ (x ∷ names ++ rest)) ≡ Some rest → or_later (cond b (after_front names (front ++ (x ∷ names ++ rest))) None) (older_nodes (x ∷ names) (front ++ (x ∷ names ++ rest))) ≡ Some rest
    by true e later =
        let there : In x (front ++ (x ∷ names ++ rest)) = in_back x front (x ∷ names ++ rest) (in_first x (names ++ rest)) in
        absurd (distinct_first y (front ++ (x ∷ names ++ rest)) once (subst (λ z. In z (front ++ (x ∷ names ++ rest))) (equal_names x y e) there))
    by false e later = later

front_is_in : (sources nodes rest : List NodeName) (x : NodeName) → after_front sources nodes ≡ Some rest → In x sources → In x nodes
front_is_in [] nodes rest x found h = absurd (cc h)
front_is_in (s ∷ sources) [] rest x found h = absurd (cc found)
front_is_in (s ∷ sources) (y ∷ nodes) rest x found h = by (name_eq s y) refl found (in_cases x s sources h) (front_is_in sources nodes rest x)
  where
    by : (b : Bool) → name_eq s y ≡ b → cond b (after_front sources nodes) None ≡ Some rest → (s ≡ x) ⊎ In x sources → (after_front sources nodes ≡ Some rest → In x sources → In x nodes) → In x (y ∷ nodes)
    by false e found at more = absurd (cc found)
    by true e found (inl same) more = subst (λ z. In x (z ∷ nodes)) (sym same ∙ equal_names s y e) (in_first x nodes)
    by true e found (inr later) more = in_later x y nodes (more found later)

-- Sources that stand in a list one after the other are in it.
pub stretch_is_in : (sources nodes rest : List NodeName) (x : NodeName) → older_nodes sources nodes ≡ Some rest → In x sources → In x nodes
stretch_is_in sources [] rest x found h = front_is_in sources [] rest x found h
stretch_is_in sources (y ∷ nodes) rest x found h = by (after_front sources (y ∷ nodes)) refl found (λ later. stretch_is_in sources nodes rest x later h)
  where
    by : (front : Option (List NodeName)) → after_front sources (y ∷ nodes) ≡ front → or_later front (older_nodes sources nodes) ≡ Some rest
        → (older_nodes sources nodes ≡ Some rest → In x nodes) → In x (y ∷ nodes)
    by None e found later = in_later x y nodes (later found)
    by (Some other) e found later = front_is_in sources (y ∷ nodes) other x e h
