-- What the last entry of a history claims and commits.
use Rattle.std.proofs.Common.{◌≡◌, ℕ, ◌+◌, ◌&&◌, List, [], ◌∷◌, ◌++◌, length, map, Bool, true, false, refl, sym, ap, ◌∙◌, subst, arith, length-append, append-nil}
use Rattle.std.specs.Prelude.{filter}
use Rattle.std.proofs.lemmas.List.Elements.{filter-append}
use Rattle.std.proofs.lemmas.List.{same_from_push}
use Rattle.fleet_model.specs.Jobs.{contains}
use Rattle.fleet_model.specs.History.{Event, GetManifest, GetRecords, GetTable, PutTable, PutManifest, PutRecords, DrawJob, DrawTable, Plan, Start, Kill, ListTables, DeleteTable, RecordsEpoch, Submit, Claim, Beat, Finish, Release, Polled, Entry, stood}
use Rattle.step_model.specs.Entries.{attempts_claimed_in}
use Rattle.course_laws.specs.Histories.{completed_in, finished_in, finished_jobs}
use Rattle.course_laws.proofs.Histories.{histories_count}
use Rattle.fleet_lock.specs.Counts.{LastAdds, claims_in, commits_in, count, finishes, is_finish}

-- ---- counting finishes

-- The first element is counted if it passes the test.
filter_first : {A : Type 0} (p : A → Bool) (x : A) (xs : List A) → length (filter p (x ∷ xs)) ≡ count (p x) + length (filter p xs)
filter_first p x xs = by (p x) refl
  where
    by : (b : Bool) → p x ≡ b → length (filter p (x ∷ xs)) ≡ count b + length (filter p xs)
    by true e = grind (arith, e)
    by false e = grind (arith, e)

-- So an event counts as one of the jobs that it finishes.
one_finished : (jobs : List ℕ) (b : Bool) (event : Event) → count (b && finishes jobs event) ≡ length (filter (contains jobs) (finished_in b event))
one_finished jobs false event = refl
one_finished jobs true (PutRecords (Finish worker job attempt outputs)) = let a = filter_first (contains jobs) job [] in omega arith
one_finished jobs true (PutRecords (RecordsEpoch epoch)) = refl
one_finished jobs true (PutRecords (Submit specs)) = refl
one_finished jobs true (PutRecords (Claim worker attempts)) = refl
one_finished jobs true (PutRecords (Beat worker attempts)) = refl
one_finished jobs true (PutRecords (Release worker attempts)) = refl
one_finished jobs true (PutRecords (Polled change)) = refl
one_finished jobs true GetManifest = refl
one_finished jobs true GetRecords = refl
one_finished jobs true (GetTable table) = refl
one_finished jobs true (PutTable table rows) = refl
one_finished jobs true (PutManifest change) = refl
one_finished jobs true (DrawJob job) = refl
one_finished jobs true (DrawTable table) = refl
one_finished jobs true (Plan job attempt ranges) = refl
one_finished jobs true (Start party) = refl
one_finished jobs true (Kill party) = refl
one_finished jobs true (ListTables many) = refl
one_finished jobs true (DeleteTable table) = refl

-- The entries that finish one of the jobs are as many as the finished jobs among them.
finishes_counted : (jobs : List ℕ) (history : List Entry) → length (filter (is_finish jobs) history) ≡ length (filter (contains jobs) (finished_jobs history))
finishes_counted jobs [] = refl
finishes_counted jobs (entry ∷ history) =
    let a = filter_first (is_finish jobs) entry history in
    let b = one_finished jobs (stood entry.answer) entry.event in
    let c = ap length (filter-append (contains jobs) (finished_in (stood entry.answer) entry.event) (finished_jobs history)) in
    let d = length-append (filter (contains jobs) (finished_in (stood entry.answer) entry.event)) (filter (contains jobs) (finished_jobs history)) in
    let e = finishes_counted jobs history in
    omega arith

filter_through : {A B : Type 0} (f : A → B) (p : B → Bool) (xs : List A) → length (filter (λ x. p (f x)) xs) ≡ length (filter p (map f xs))
filter_through f p [] = refl
filter_through f p (x ∷ xs) =
    let a = filter_first (λ y. p (f y)) x xs in
    let b = filter_first p (f x) (map f xs) in
    let c = filter_through f p xs in
    omega arith

-- So it is where entries are read by a function.
pub finishes_read : {A : Type 0} (read : A → Entry) (jobs : List ℕ) (history : List A) → length (filter (λ entry. is_finish jobs (read entry)) history) ≡ length (filter (contains jobs) (finished_jobs (map read history)))
finishes_read read jobs history = filter_through read (is_finish jobs) history ∙ finishes_counted jobs (map read history)

-- None is among no jobs.
none_filtered : (ids : List ℕ) → length (filter (contains []) ids) ≡ 0
none_filtered [] = refl
none_filtered (id ∷ ids) = none_filtered ids

pub none_among : (jobs ids : List ℕ) → length jobs ≡ 0 → 0 ≡ length (filter (contains jobs) ids)
none_among [] ids none = sym (none_filtered ids)
none_among (job ∷ jobs) ids none = absurd (omega arith)

-- ---- the last entry

map_push : {A B : Type 0} (f : A → B) (xs : List A) (x : A) → map f (xs ++ x ∷ []) ≡ map f xs ++ f x ∷ []
map_push f [] x = refl
map_push f (y ∷ xs) x = ap (λ ys. f y ∷ ys) (map_push f xs x)

claims_at_last : (front : List Entry) (last : Entry) → claims_in (front ++ last ∷ []) ≡ claims_in front + length (attempts_claimed_in (stood last.answer) last.event)
claims_at_last front last =
    let a = histories_count.claims_number front (last ∷ []) in
    let b = ap length (append-nil (attempts_claimed_in (stood last.answer) last.event)) in
    omega arith

commits_at_last : (front : List Entry) (last : Entry) → commits_in (front ++ last ∷ []) ≡ commits_in front + length (filter (contains (completed_in (stood last.answer) last.event)) (finished_jobs front))
commits_at_last front last =
    let a = histories_count.commits_number front (last ∷ []) in
    let b = ap length (append-nil (filter (contains (completed_in (stood last.answer) last.event)) (finished_jobs front))) in
    omega arith

-- A number that the last entry adds to what is before it.
adds_at : {A : Type 0} (read : A → Entry) (number : List Entry → ℕ) (adds : List Entry → Entry → ℕ) → ((front : List Entry) (last : Entry) → number (front ++ last ∷ []) ≡ number front + adds front last)
    → (history before : List A) (last : A) → history ≡ before ++ last ∷ [] → LastAdds number (adds (map read before) (read last)) (map read history)
adds_at read number adds at history before last is front end cut =
    let here = ap (map read) is ∙ map_push read before last in
    let same = same_from_push (map read before) front (read last) end (sym here ∙ cut) in
    ap number cut ∙ (at front end ∙ (λ i. number front + adds (sym same.0 i) (sym same.1 i)))

pub claims_last : {A : Type 0} (read : A → Entry) (many : ℕ) (history before : List A) (last : A) → history ≡ before ++ last ∷ [] → many ≡ length (attempts_claimed_in (stood (read last).answer) (read last).event) → LastAdds claims_in many (map read history)
claims_last read many history before last is count_is = subst (λ n. LastAdds claims_in n (map read history)) (sym count_is)
    (adds_at read claims_in (λ front last. length (attempts_claimed_in (stood last.answer) last.event)) claims_at_last history before last is)

pub commits_last : {A : Type 0} (read : A → Entry) (many : ℕ) (history before : List A) (last : A) → history ≡ before ++ last ∷ []
    → many ≡ length (filter (contains (completed_in (stood (read last).answer) (read last).event)) (finished_jobs (map read before))) → LastAdds commits_in many (map read history)
commits_last read many history before last is count_is = subst (λ n. LastAdds commits_in n (map read history)) (sym count_is)
    (adds_at read commits_in (λ front last. length (filter (contains (completed_in (stood last.answer) last.event)) (finished_jobs front))) commits_at_last history before last is)

-- A history without entries has no last one.
pub none_last : {A : Type 0} (read : A → Entry) (number : List Entry → ℕ) (many : ℕ) (history : List A) → length history ≡ 0 → LastAdds number many (map read history)
none_last read number many [] e [] last cut = absurd (cc cut)
none_last read number many [] e (entry ∷ front) last cut = absurd (cc cut)
none_last read number many (x ∷ history) e front last cut = absurd (omega arith)
