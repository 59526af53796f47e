-- The flushes that the trees name are those that the history counts: each lawful call keeps this so.
use Rattle.std.proofs.Common.{◌≡◌, refl, sym, ◌∙◌, ap, subst, ℕ, List, [], ◌∷◌, ◌++◌, cond, Bool, true, false, None, append-nil, arith}
use Rattle.std.specs.Prelude.{◌==◌, ◌&&◌, not, filter, bytes_eq, ⊤}
use Rattle.std.specs.List.{AllByRecursion, list_any}
use Rattle.std.proofs.lemmas.Bool.Decides.{Decides-eqb}
use Rattle.row_model.specs.Fold.{Operator, IsLawful}
use Rattle.fleet_model.specs.Nodes.{Tables, table_rows, Trees, tree_at}
use Rattle.fleet_model.specs.Jobs.{JobSpec, contains}
use Rattle.fleet_model.specs.History.{Party, Step, Join, Move, Drain, Event, PutManifest, PutRecords, ManifestChange, ManifestEpoch, Flush, Commit, Entry, stood}
use Rattle.fleet_model.specs.Store.{Manifest, fresh_store}
use Rattle.fleet_model.specs.Trees.{stepped_in, job_of}
use Rattle.fleet_model.specs.Past.Replay.{Objects, outputs_in, after_entry, replayed_objects, plain_objects}
use Rattle.fleet_model.specs.Work.Parties.{LiveWorker}
use Rattle.fleet_model.specs.Jobs.{Two}
use Rattle.step_model.specs.Past.{World}
use Rattle.step_model.specs.Kept.Faithful.{Faithful}
use Rattle.step_model.specs.Rivals.{Caller}
use Rattle.step_model.specs.Kept.Keeps.{Keeps}
use Rattle.step_model.specs.LawfulManifests.{ManifestFits}
use Rattle.step_laws.specs.Runs.{CallsKeep}
use Rattle.step_laws.proofs.Elements.{all_from, in_contains}
use Rattle.step_laws.proofs.Replays.{replayed_push}
use Rattle.step_laws.proofs.Alike.{SameReplays, replays_alike}
use Rattle.step_laws.proofs.Mute.{IsMute}
use Rattle.step_laws.proofs.Bodies.{whole_of}
use Rattle.step_laws.proofs.MuteBodies.{entered, faithful_before}
use Rattle.step_laws.proofs.TableBodies.{with_table, same_with_table}
use Rattle.step_laws.proofs.ManifestBodies.{with_manifest, faithful_before_manifest}
use Rattle.step_laws.proofs.RecordsBodies.{faithful_before_records}
use Rattle.step_laws.proofs.FlushTrees.{rising_from, tree_flushed, new_node}
use Rattle.rival_laws.proofs.Outcomes.{Outcome, Notes, Deletes, NewTable, NewManifest, NewRecords, outcome, put_manifest}
use Rattle.rival_laws.proofs.WorkerCalls.{follows_table}
use Rattle.line_laws.specs.Undrained.{flushes_in, taken_by, without_flushes, left_by, is_drain_step, counted_after, counted_in, counted_from, undrained_flushes, FlushesCount}
use Rattle.line_laws.proofs.Courses.{CallsHold}
use Rattle.line_laws.proofs.Drains.{without_none, commit_flushes}

-- ---- what counts after one entry more

-- What an entry leaves of the flushes that count, given the trees after it.
abbrev counted_by : List ℕ → Entry → Trees → List ℕ → List ℕ
counted_by prefix entry trees flushes = cond (stood entry.answer) (counted_in prefix entry.event trees flushes) flushes

counted_push : (tables : Tables) (specs : ℕ → JobSpec) (prefix : List ℕ) (o : Objects) (flushes : List ℕ) (history : List Entry) (entry : Entry)
    → counted_from tables specs prefix o flushes (history ++ entry ∷ []) ≡ counted_by prefix entry (after_entry tables specs entry (replayed_objects tables specs history o)).manifest.trees (counted_from tables specs prefix o flushes history)
counted_push tables specs prefix o flushes [] entry = refl
counted_push tables specs prefix o flushes (first ∷ history) entry =
    counted_push tables specs prefix (after_entry tables specs first o) (counted_by prefix first (after_entry tables specs first o).manifest.trees flushes) history entry

-- What counts depends on the replay alone.
counted_same : (tables more : Tables) (one other : ℕ → JobSpec) (prefix : List ℕ) (flushes : List ℕ) (history : List Entry) (o p : Objects) → SameReplays tables one more other history o p
    → counted_from tables one prefix o flushes history ≡ counted_from more other prefix p flushes history
counted_same tables more one other prefix flushes [] o p same = refl
counted_same tables more one other prefix flushes (entry ∷ history) o p same =
    let after : after_entry tables one entry o ≡ after_entry more other entry p = same (entry ∷ []) history refl in
    counted_same tables more one other prefix (counted_by prefix entry (after_entry tables one entry o).manifest.trees flushes) history (after_entry tables one entry o) (after_entry more other entry p)
    (λ front back e. same (entry ∷ front) back (ap (λ (es : List Entry). entry ∷ es) e))
    ∙ ap (λ (q : Objects). counted_from more other prefix (after_entry more other entry p) (counted_by prefix entry q.manifest.trees flushes) history) after

-- A faithful replay gives the stored objects.
replay_is : (world : World) (specs : ℕ → JobSpec) (merge : Operator) → Keeps merge world → Faithful world specs → replayed_objects world.store.tables specs world.store.history (plain_objects fresh_store) ≡ plain_objects world.store
replay_is world specs merge k f = replays_alike world specs k.stored.replay.specs f k.faithful world.store.history [] (append-nil world.store.history) ∙ sym k.stored.replay.objects

-- ---- one change of the manifest

-- A number that a filter left passes its test.
filters_on : (p : ℕ → Bool) (xs : List ℕ) (flush : ℕ) → contains (filter p xs) flush ≡ true → p flush ≡ true
filters_on p [] flush e = absurd (cc e)
filters_on p (x ∷ xs) flush e = by (p x) refl (filters_on p xs flush) e
  where
    same : p x ≡ true → (b : Bool) → (x == flush) ≡ b → (contains (filter p xs) flush ≡ true → p flush ≡ true) → cond b true (contains (filter p xs) flush) ≡ true → p flush ≡ true
    same is true f rest e = subst (λ (n : ℕ). p n ≡ true) ((Decides-eqb x flush).0 f) is
    same is false f rest e = rest e

    by : (b : Bool) → p x ≡ b → (contains (filter p xs) flush ≡ true → p flush ≡ true) → contains (cond b (x ∷ filter p xs) (filter p xs)) flush ≡ true → p flush ≡ true
    by true is rest e = same is (x == flush) refl rest e
    by false is rest e = rest e

-- A filter leaves each number of the list that passes its test.
filter_in : (p : ℕ → Bool) (xs : List ℕ) (flush : ℕ) → contains xs flush ≡ true → p flush ≡ true → contains (filter p xs) flush ≡ true
filter_in p [] flush e is = absurd (cc e)
filter_in p (x ∷ xs) flush e is = by (x == flush) refl e (filter_in p xs flush)
  where
    kept : (b : Bool) → (contains (filter p xs) flush ≡ true) → contains (cond b (x ∷ filter p xs) (filter p xs)) flush ≡ true
    kept true h = either (x == flush)
      where
        either : (c : Bool) → cond c true (contains (filter p xs) flush) ≡ true
        either true = refl
        either false = h
    kept false h = h

    first : (b : Bool) → p x ≡ b → x ≡ flush → contains (cond b (x ∷ filter p xs) (filter p xs)) flush ≡ true
    first true e same = ap (λ (c : Bool). cond c true (contains (filter p xs) flush)) ((Decides-eqb x flush).1 same)
    first false e same = let passes = subst (λ (n : ℕ). p n ≡ true) (sym same) is in absurd (cc (e, passes))

    by : (b : Bool) → (x == flush) ≡ b → cond b true (contains xs flush) ≡ true → (contains xs flush ≡ true → p flush ≡ true → contains (filter p xs) flush ≡ true) → contains (filter p (x ∷ xs)) flush ≡ true
    by true f e rest = first (p x) refl ((Decides-eqb x flush).0 f)
    by false f e rest = kept (p x) (rest e is)

-- Those that were left are exactly those that are still there.
left_are : (p : ℕ → Bool) (xs : List ℕ) → filter (contains (filter p xs)) xs ≡ filter p xs
left_are p xs = filter_same (contains (filter p xs)) p xs (all_from _ xs (λ x there. agree x (in_contains xs x there) (p x) refl))
  where
    agree : (x : ℕ) → contains xs x ≡ true → (b : Bool) → p x ≡ b → contains (filter p xs) x ≡ p x
    agree x there true e = filter_in p xs x there e ∙ sym e
    agree x there false e = by (contains (filter p xs) x) refl ∙ sym e
      where
        by : (c : Bool) → contains (filter p xs) x ≡ c → contains (filter p xs) x ≡ false
        by false f = f
        by true f = let never = filters_on p xs x f in absurd (cc (e, never))

    filter_same : (p q : ℕ → Bool) (xs : List ℕ) → AllByRecursion (λ x. p x ≡ q x) xs → filter p xs ≡ filter q xs
    filter_same p q [] h = refl
    filter_same p q (x ∷ xs) h = let first = h.0 in let rest = filter_same p q xs h.1 in (λ i. cond (first i) (x ∷ rest i) (rest i))

-- What is left by the steps of a commit passes a test.
record IsFiltered (flushes left : List ℕ) : Type 0 where
  test : ℕ → Bool
  is : left ≡ filter test flushes

-- Two filters, one after the other, leave what passes both tests.
filter_twice : (p q : ℕ → Bool) (xs : List ℕ) → filter p (filter q xs) ≡ filter (λ x. q x && p x) xs
filter_twice p q [] = refl
filter_twice p q (x ∷ xs) = by (q x) (p x) (filter_twice p q xs)
  where
    by : (b c : Bool) → filter p (filter q xs) ≡ filter (λ x. q x && p x) xs → filter p (cond b (x ∷ filter q xs) (filter q xs)) ≡ cond (b && p x) (x ∷ filter (λ x. q x && p x) xs) (filter (λ x. q x && p x) xs)
    by true c rest = at (p x) rest
      where
        at : (d : Bool) → filter p (filter q xs) ≡ filter (λ x. q x && p x) xs → cond d (x ∷ filter p (filter q xs)) (filter p (filter q xs)) ≡ cond d (x ∷ filter (λ x. q x && p x) xs) (filter (λ x. q x && p x) xs)
        at true rest = ap (λ (ys : List ℕ). x ∷ ys) rest
        at false rest = rest
    by false c rest = rest

all_stay : (xs : List ℕ) → filter (λ x. true) xs ≡ xs
all_stay [] = refl
all_stay (x ∷ xs) = ap (λ (ys : List ℕ). x ∷ ys) (all_stay xs)

left_filtered : (tables : Tables) (jobs : ℕ → JobSpec × List ℕ) (prefix : List ℕ) (steps : List Step) (trees : Trees) (flushes : List ℕ) → IsFiltered flushes (left_by tables jobs prefix steps trees flushes)
left_filtered tables jobs prefix [] trees flushes = record { test = λ x. true; is = sym (all_stay flushes) }
left_filtered tables jobs prefix (step ∷ steps) trees flushes = further (left_filtered tables jobs prefix steps (stepped_in tables step (jobs (job_of step)).0 (jobs (job_of step)).1 trees) (without_flushes taken flushes))
  where
    taken : List ℕ
    taken = taken_by prefix trees step (jobs (job_of step)).0

    further : IsFiltered (without_flushes taken flushes) (left_by tables jobs prefix (step ∷ steps) trees flushes) → IsFiltered flushes (left_by tables jobs prefix (step ∷ steps) trees flushes)
    further f = record { test = λ x. not (contains taken x) && f.test x; is = f.is ∙ filter_twice f.test (λ x. not (contains taken x)) flushes }

-- Steps that are no drains leave all flushes.
left_whole : (tables : Tables) (jobs : ℕ → JobSpec × List ℕ) (prefix : List ℕ) (steps : List Step) (trees : Trees) (flushes : List ℕ) → list_any is_drain_step steps ≡ false → left_by tables jobs prefix steps trees flushes ≡ flushes
left_whole tables jobs prefix [] trees flushes none = refl
left_whole tables jobs prefix (Drain job ∷ steps) trees flushes none = absurd (cc none)
left_whole tables jobs prefix (Join job ∷ steps) trees flushes none =
    ap (left_by tables jobs prefix steps _) (without_none flushes) ∙ left_whole tables jobs prefix steps (stepped_in tables (Join job) (jobs job).0 (jobs job).1 trees) flushes none
left_whole tables jobs prefix (Move job ∷ steps) trees flushes none =
    ap (left_by tables jobs prefix steps _) (without_none flushes) ∙ left_whole tables jobs prefix steps (stepped_in tables (Move job) (jobs job).0 (jobs job).1 trees) flushes none

-- A lawful put of the manifest that takes effect counts as its trees do.
manifest_counts : (merge : Operator) (world : World) (party : Party) (change : ManifestChange) (value : Manifest) (prefix : List ℕ) → IsLawful merge → Keeps merge world → ManifestFits party world change value
    → flushes_in (tree_at prefix value.trees) ≡ counted_after prefix change value.trees (flushes_in (tree_at prefix world.store.manifest.trees))
manifest_counts merge world party (ManifestEpoch epoch) value prefix lawful kept fits = ap (λ (m : Manifest). flushes_in (tree_at prefix m.trees)) fits.makes
manifest_counts merge world party (Flush name segment floor tick) value prefix lawful kept fits =
    ap (λ (m : Manifest). flushes_in (tree_at prefix m.trees)) fits.makes
    ∙ ap flushes_in (tree_flushed prefix segment name (table_rows world.store.tables name) world.store.manifest.trees (rising_from world.store.manifest.trees kept.stored.sound.prefixes))
    ∙ by (bytes_eq prefix segment)
  where
    by : (b : Bool) → flushes_in (cond b (new_node name ∷ tree_at prefix world.store.manifest.trees) (tree_at prefix world.store.manifest.trees))
        ≡ cond b (name ∷ flushes_in (tree_at prefix world.store.manifest.trees)) (flushes_in (tree_at prefix world.store.manifest.trees))
    by true = refl
    by false = refl
manifest_counts merge world party (Commit steps) value prefix lawful kept fits = by (list_any is_drain_step steps) refl
  where
    old : List ℕ
    old = flushes_in (tree_at prefix world.store.manifest.trees)

    jobs : ℕ → JobSpec × List ℕ
    jobs id = (fits.specs id, outputs_in world.store.records id)

    left : flushes_in (tree_at prefix value.trees) ≡ left_by world.store.tables jobs prefix steps world.store.manifest.trees old
    left = ap (λ (m : Manifest). flushes_in (tree_at prefix m.trees)) fits.makes ∙ commit_flushes merge world party fits.specs steps lawful kept fits.known fits.each prefix

    by : (b : Bool) → list_any is_drain_step steps ≡ b → flushes_in (tree_at prefix value.trees) ≡ cond b (filter (contains (flushes_in (tree_at prefix value.trees))) old) old
    by false none = left ∙ left_whole world.store.tables jobs prefix steps world.store.manifest.trees old none
    by true some =
        let f = left_filtered world.store.tables jobs prefix steps world.store.manifest.trees old in
        let all : flushes_in (tree_at prefix value.trees) ≡ filter f.test old = left ∙ f.is in
        all ∙ sym (left_are f.test old) ∙ ap (λ (xs : List ℕ). filter (contains xs) old) (sym all)

-- ---- all calls

never_raised : ◌≡◌ {A = ℕ} 2 1 → ⊥
never_raised e = absurd (omega (arith, e))

-- An entry that changes no object counts nothing.
mute_counts : (prefix : List ℕ) (entry : Entry) (trees : Trees) (flushes : List ℕ) → IsMute (stood entry.answer) entry.event → counted_by prefix entry trees flushes ≡ flushes
mute_counts prefix entry trees flushes mute = by (stood entry.answer) entry.event mute
  where
    by : (took : Bool) (event : Event) → IsMute took event → cond took (counted_in prefix event trees flushes) flushes ≡ flushes
    by false event mute = refl
    by true (PutManifest (ManifestEpoch epoch)) mute = refl
    by true (PutManifest (Flush name segment floor tick)) mute = absurd (never_raised (ap (λ (o : Objects). o.manifest.version) (mute.objects [] (λ n. record { segment = []; sources = []; destination = None }) (plain_objects fresh_store))))
    by true (PutManifest (Commit steps)) mute = absurd (never_raised (ap (λ (o : Objects). o.manifest.version) (mute.objects [] (λ n. record { segment = []; sources = []; destination = None }) (plain_objects fresh_store))))
    by true event mute = refl

-- A worker that runs nothing.
abbrev idle : LiveWorker
idle = record { number = 0; release = Two; attempts = [] }

-- Under a lawful operator, lawful calls keep it so that the trees name the undrained flushes of the history.
pub flushes_hold : (who : Caller) → IsLawful who.merge → CallsKeep who.merge → CallsHold who (λ x. ⊤) FlushesCount
flushes_hold who merge_lawful keep x strike world kept lawful may one h = by (outcome who.merge x who.line who.party strike world lawful may) (keep x who.line who.party strike world kept lawful may)
  where
    -- A world in which no object changed.
    same_world : (old : World) → FlushesCount old → (deleted : List ℕ) (jobs_drawn tables_drawn : ℕ) (entry : Entry) → IsMute (stood entry.answer) entry.event → FlushesCount (entered old deleted jobs_drawn tables_drawn entry)
    same_world old count deleted jobs_drawn tables_drawn entry mute specs faithful prefix =
        count specs (faithful_before old specs deleted jobs_drawn tables_drawn entry faithful) prefix
        ∙ sym (counted_push old.store.tables specs prefix (plain_objects fresh_store) [] old.store.history entry ∙ mute_counts prefix entry _ (undrained_flushes old.store.tables specs prefix old.store.history) mute)

    by : {new : World} → Outcome who.merge who.party world x new → Keeps who.merge new → FlushesCount new
    by (Notes jobs_drawn tables_drawn entry mute is) next = subst FlushesCount (sym is) (same_world world h world.store.deleted jobs_drawn tables_drawn entry mute)
    by (Deletes table entry what mute fits is) next = subst FlushesCount (sym is) (same_world world h _ world.store.jobs_drawn world.store.tables_drawn entry mute)
    by (NewTable table rows entry mute fits is) next =
        let puts = (whole_of who.merge world kept).puts in
        subst FlushesCount (sym is) (same_world (with_table world (table, rows)) (λ specs faithful prefix.
        h specs ((follows_table world idle (table, rows) puts).faithful specs faithful) prefix
        ∙ sym (counted_same (world.store.tables ++ (table, rows) ∷ []) world.store.tables specs specs prefix [] world.store.history (plain_objects fresh_store) (plain_objects fresh_store) (same_with_table world (table, rows) specs puts)))
        world.store.deleted world.store.jobs_drawn world.store.tables_drawn entry mute)
    by (NewRecords change epoch jobs line answer took names fits is) next =
        let entry : Entry = record { line = line; party = who.party; event = PutRecords change; answer = answer } in
        subst FlushesCount (sym is) (λ specs faithful prefix.
        h specs (faithful_before_records world specs _ entry faithful) prefix
        ∙ sym (counted_push world.store.tables specs prefix (plain_objects fresh_store) [] world.store.history entry ∙ either (stood answer) (undrained_flushes world.store.tables specs prefix world.store.history)))
      where
        either : (b : Bool) (flushes : List ℕ) → cond b flushes flushes ≡ flushes
        either true flushes = refl
        either false flushes = refl
    by (NewManifest version change value line answer took what fits is) next = subst FlushesCount (sym is) (λ specs faithful prefix. at specs faithful prefix)
      where
        entry : Entry
        entry = record { line = line; party = who.party; event = PutManifest change; answer = answer }

        now : World
        now = with_manifest world (put_manifest world value) entry

        at : (specs : ℕ → JobSpec) → Faithful now specs → (prefix : List ℕ) → flushes_in (tree_at prefix value.trees) ≡ undrained_flushes world.store.tables specs prefix (world.store.history ++ entry ∷ [])
        at specs faithful prefix =
            let before = faithful_before_manifest who.merge world kept.stored.replay.specs specs (put_manifest world value) entry (whole_of who.merge world kept).body refl faithful in
            let trees : (after_entry world.store.tables specs entry (replayed_objects world.store.tables specs world.store.history (plain_objects fresh_store))).manifest.trees ≡ value.trees =
            ap (λ (o : Objects). o.manifest.trees) (sym (replayed_push world.store.tables specs world.store.history entry (plain_objects fresh_store)) ∙ replay_is now specs who.merge (subst (Keeps who.merge) is next) faithful) in
            manifest_counts who.merge world who.party change value prefix merge_lawful kept fits
            ∙ ap (counted_after prefix change value.trees) (h specs before prefix)
            ∙ sym (counted_push world.store.tables specs prefix (plain_objects fresh_store) [] world.store.history entry
            ∙ ap (λ (t : Trees). counted_by prefix entry t (undrained_flushes world.store.tables specs prefix world.store.history)) trees
            ∙ ap (λ (b : Bool). cond b (counted_after prefix change value.trees (undrained_flushes world.store.tables specs prefix world.store.history)) (undrained_flushes world.store.tables specs prefix world.store.history)) took)
