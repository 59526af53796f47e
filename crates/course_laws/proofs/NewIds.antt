-- Ids that a party drew and that no entry mentions: they are new, and stay new whatever others do.
use Rattle.std.proofs.Common.{◌≡◌, ◌≢◌, refl, sym, ◌∙◌, ap, subst, ℕ, ◌+◌, ◌%◌, ◌^◌, ◌<◌, List, [], ◌∷◌, ◌++◌, cond, Bool, true, false, inl, inr, ◌⊎◌, Option, Some, None, arith}
use Rattle.std.specs.Prelude.{IsTrue, ◌==◌, ◌&&◌, map, find, option_map}
use Rattle.std.specs.List.{AllByRecursion}
use Rattle.std.proofs.lemmas.Bool.Decides.{Decides-eqb}
use Rattle.std.proofs.lemmas.Nat.{mod-mul-add}
use Rattle.row_model.specs.Lists.{Pairs}
use Rattle.row_model.specs.Fold.{Operator}
use Rattle.fleet_model.specs.Nodes.{Tables, Trees}
use Rattle.fleet_model.specs.Jobs.{JobSpec, Job, job_with, contains, number_of, id_of}
use Rattle.fleet_model.specs.History.{Party, Event, DrawJob, PutManifest, PutRecords, ManifestChange, ManifestEpoch, Flush, Commit, RecordChange, Step, Entry, stood}
use Rattle.fleet_model.specs.Store.{Manifest, stored_jobs, fresh_store}
use Rattle.fleet_model.specs.Trees.{job_of, stepped_in, stepped_all}
use Rattle.fleet_model.specs.Work.Records.{firsts}
use Rattle.fleet_model.specs.Past.Replay.{Objects, named_specs, outputs_in, after_event, after_entry, replayed_objects, plain_objects, plain_manifest}
use Rattle.fleet_model.specs.Exchanges.{Exchange, Plain, DrawsJob, DrawsTable, PutsTable, PutsManifest, PutsRecords, ListsTables, DeletesTable, event_of, next_job_id}
use Rattle.step_model.specs.Past.{World, manifest_with}
use Rattle.step_model.specs.Entries.{party_eq, drew_job, is_draw_of, drawn_jobs, job_drawn_in, mentioned_in, is_mentioned, was_named, steps_in}
use Rattle.step_model.specs.Kept.Faithful.{Faithful, AgreesWith, with_specs, spec_or}
use Rattle.step_model.specs.LawfulTables.{DrawFits}
use Rattle.step_model.specs.LawfulManifests.{IsKnownTo}
use Rattle.step_model.specs.LawfulRecords.{NamesFit, AreNew}
use Rattle.step_model.specs.Lawful.{Lawful}
use Rattle.step_model.specs.Rivals.{Caller, Strike, Rivals, after_call}
use Rattle.step_model.specs.Kept.Keeps.{Keeps}
use Rattle.step_laws.specs.Runs.{CallsKeep}
use Rattle.step_laws.proofs.Elements.{IsIn, all_at, all_from, all_to, all_push, all_front, all_back, pairs_push, any_front, any_push_no, any_push_yes, any_of, any_element, Passes, is_itself, contains_in, in_contains, contains_no, contains_front, in_append, in_front}
use Rattle.step_laws.proofs.Respecs.{drew_drawn, all_firsts}
use Rattle.step_laws.proofs.Changed.{job_found}
use Rattle.course_laws.proofs.Later.{entry_by, answer_by, call_history}
use Rattle.course_laws.proofs.Calls.{rivals_hold, both, or_cases, all_map}
use Rattle.course_laws.proofs.Puts.{party_itself}
use Rattle.course_laws.proofs.Stood.{stood_version}
use Rattle.rival_laws.proofs.SameParty.{party_same}
use Rattle.step_laws.proofs.Polls.{in_map}
use Rattle.rival_laws.proofs.FreeTables.{refused}

-- ---- one draw, one party

-- An id is drawn once, so one party drew it.
one_drew : (a b : Party) (id : ℕ) (history : List Entry) → Pairs (λ x y. number_of x < number_of y) (drawn_jobs history) → IsTrue (drew_job a history id) → IsTrue (drew_job b history id) → a ≡ b
one_drew a b id [] rise one other = absurd (cc one)
one_drew a b id (entry ∷ history) rise one other = by entry.event refl (or_cases (party_eq a entry.party && is_draw_of id entry.event) _ one) (or_cases (party_eq b entry.party && is_draw_of id entry.event) _ other) rise (one_drew a b id history)
  where
    After : Party → Event → Type 0
    After party event = ((party_eq party entry.party && is_draw_of id event) ≡ true) ⊎ (drew_job party history id ≡ true)

    clash : (party : Party) (drawn : ℕ) → (party_eq party entry.party && is_draw_of id (DrawJob drawn)) ≡ true → (p : Party) → drew_job p history id ≡ true → AllByRecursion (λ y. number_of drawn < number_of y) (drawn_jobs history) → ⊥
    clash party drawn first p second low =
        let same = (Decides-eqb id drawn).0 (both (party_eq party entry.party) _ first).1 in
        let above = all_at (λ y. number_of drawn < number_of y) (drawn_jobs history) id low (contains_in (drawn_jobs history) id (drew_drawn p history id second)) in
        let equal = ap number_of same in
        omega (arith, above, equal)

    by : (event : Event) → entry.event ≡ event → After a event → After b event → Pairs (λ x y. number_of x < number_of y) (job_drawn_in event ++ drawn_jobs history)
        → (Pairs (λ x y. number_of x < number_of y) (drawn_jobs history) → IsTrue (drew_job a history id) → IsTrue (drew_job b history id) → a ≡ b) → a ≡ b
    by (DrawJob drawn) e (inl first) (inl second) rise rest = party_same a entry.party (both _ _ first).0 ∙ sym (party_same b entry.party (both _ _ second).0)
    by (DrawJob drawn) e (inl first) (inr second) rise rest = absurd (clash a drawn first b second rise.0)
    by (DrawJob drawn) e (inr first) (inl second) rise rest = absurd (clash b drawn second a first rise.0)
    by (DrawJob drawn) e (inr first) (inr second) rise rest = rest rise.1 first second
    by event e (inr first) (inr second) rise rest = rest rise first second
    by event e (inl first) other rise rest = absurd (cc (both (party_eq a entry.party) _ first).1)
    by event e one (inl second) rise rest = absurd (cc (both (party_eq b entry.party) _ second).1)

-- ---- what entries mention

-- A job that a put named was mentioned.
named_mentioned : (history : List Entry) (id : ℕ) → IsTrue (was_named history id) → IsTrue (is_mentioned history id)
named_mentioned history id h = at (any_element (λ (e : Entry). contains (firsts (named_specs e.event)) id && stood e.answer) history h)
  where
    at : Passes (λ (e : Entry). contains (firsts (named_specs e.event)) id && stood e.answer) history → IsTrue (is_mentioned history id)
    at found = any_of (λ (e : Entry). contains (mentioned_in e) id) history found.element found.there
        (contains_front (firsts (named_specs found.element.event)) _ id (both (contains (firsts (named_specs found.element.event)) id) _ found.passes).0)

-- A job that an entry mentions was drawn.
mentioned_drawn : (merge : Operator) (world : World) (id : ℕ) → Keeps merge world → IsTrue (is_mentioned world.store.history id) → IsTrue (contains (drawn_jobs world.store.history) id)
mentioned_drawn merge world id kept h = at (any_element (λ (e : Entry). contains (mentioned_in e) id) world.store.history h)
  where
    at : Passes (λ (e : Entry). contains (mentioned_in e) id) world.store.history → IsTrue (contains (drawn_jobs world.store.history) id)
    at found = all_at (λ n. IsTrue (contains (drawn_jobs world.store.history) n)) (mentioned_in found.element) id
        (all_at (λ (e : Entry). AllByRecursion (λ n. IsTrue (contains (drawn_jobs world.store.history) n)) (mentioned_in e)) world.store.history found.element kept.facts.names.drawn found.there)
        (contains_in (mentioned_in found.element) id found.passes)

none_of : (id : ℕ) (took : Bool) → IsIn id (cond took [] []) → ⊥
none_of id true there = there
none_of id false there = there

-- ---- new ids

-- The party drew the ids of these pairs, each id stands in one pair, and no entry mentions any.
pub record AreFresh {B : Type 0} (party : Party) (world : World) (pairs : List (ℕ × B)) : Type 0 where
  pub drawn : AllByRecursion (λ p. IsTrue (drew_job party world.store.history p.0)) pairs
  pub fresh : AllByRecursion (λ p. is_mentioned world.store.history p.0 ≡ false) pairs
  pub once : Pairs (λ p q. p.0 ≢ q.0) pairs

pub drew_grows : (party : Party) (history : List Entry) (entry : Entry) (id : ℕ) → IsTrue (drew_job party history id) → IsTrue (drew_job party (history ++ entry ∷ []) id)
drew_grows party history entry id h = any_front (λ (e : Entry). party_eq party e.party && is_draw_of id e.event) history (entry ∷ []) h

fresh_push : (history : List Entry) (entry : Entry) (id : ℕ) → contains (mentioned_in entry) id ≡ false → is_mentioned history id ≡ false → is_mentioned (history ++ entry ∷ []) id ≡ false
fresh_push history entry id none fresh = any_push_no (λ (e : Entry). contains (mentioned_in e) id) history entry none ∙ fresh

-- Ids stay new after a call whose entry mentions none of them.
pub fresh_on : {B : Type 0} (party : Party) (line : ℕ) (caller : Party) (x : Exchange) (strike : Strike) (world : World) (pairs : List (ℕ × B))
    → ((id : ℕ) → IsTrue (drew_job party world.store.history id) → is_mentioned world.store.history id ≡ false → contains (mentioned_in (entry_by line caller x strike world.store)) id ≡ false)
    → AreFresh party world pairs → AreFresh party (after_call line caller x strike world) pairs
fresh_on {B} party line caller x strike world pairs none h =
    let entry = entry_by line caller x strike world.store in
    let grown = sym (call_history line caller x strike world.store) in
    record {
      drawn = all_to _ _ pairs (λ p there drew. subst (λ (history : List Entry). IsTrue (drew_job party history p.0)) grown (drew_grows party world.store.history entry p.0 drew)) h.drawn;
      fresh = all_to _ _ pairs (λ p there one. subst (λ (history : List Entry). is_mentioned history p.0 ≡ false) grown
          (fresh_push world.store.history entry p.0 (none p.0 (all_at (λ (q : ℕ × B). IsTrue (drew_job party world.store.history q.0)) pairs p h.drawn there) one) one)) h.fresh;
      once = h.once;
    }

-- A job that is stored was named.
pub stored_named : (merge : Operator) (world : World) (id : ℕ) (job : Job) → Keeps merge world → job_with id (stored_jobs world.store) ≡ Some job → IsTrue (was_named world.store.history id)
stored_named merge world id job kept e =
    let found = job_found id (stored_jobs world.store) job e in
    subst (λ n. IsTrue (was_named world.store.history n)) found.same (all_at (λ (j : Job). IsTrue (was_named world.store.history j.id)) (stored_jobs world.store) job kept.facts.names.named found.there)

-- A job that no entry mentions was not named.
pub not_named : (history : List Entry) (id : ℕ) → is_mentioned history id ≡ false → (b : Bool) → was_named history id ≡ b → was_named history id ≡ false
not_named history id fresh true e = absurd (refused (is_mentioned history id) fresh (named_mentioned history id e))
not_named history id fresh false e = e

-- The entry of another party's lawful call mentions no id that the party drew and that no put has named.
pub others_mention_none : (merge : Operator) (party caller : Party) (line : ℕ) (x : Exchange) (strike : Strike) (world : World) → caller ≢ party → Keeps merge world → Lawful merge caller world x → (id : ℕ)
    → IsTrue (drew_job party world.store.history id) → was_named world.store.history id ≡ false → contains (mentioned_in (entry_by line caller x strike world.store)) id ≡ false
others_mention_none merge party caller line x strike world other kept lawful id drew unnamed =
    contains_no (mentioned_in (entry_by line caller x strike world.store)) id (λ there. at x lawful (in_append id (firsts (named_specs (event_of x world.store))) _ there))
  where
    not_theirs : IsTrue (drew_job caller world.store.history id) → ⊥
    not_theirs theirs = other (one_drew caller party id world.store.history kept.facts.draws.jobs_rise theirs drew)

    in_named : (change : RecordChange) → NamesFit caller world (named_specs (PutRecords change)) → IsIn id (firsts (named_specs (PutRecords change))) → ⊥
    in_named change fits there = not_theirs (all_at (λ n. IsTrue (drew_job caller world.store.history n)) (firsts (named_specs (PutRecords change))) id (all_firsts (λ n. IsTrue (drew_job caller world.store.history n)) (named_specs (PutRecords change)) fits.drawn) there)

    unknown : (specs : ℕ → JobSpec) → IsKnownTo caller world specs id → ⊥
    unknown specs known = look (job_with id (stored_jobs world.store)) refl
      where
        look : (stored : Option Job) → job_with id (stored_jobs world.store) ≡ stored → ⊥
        look None e = not_theirs (known_none e known)
          where
            known_none : job_with id (stored_jobs world.store) ≡ None → IsKnownTo caller world specs id → IsTrue (drew_job caller world.store.history id)
            known_none e known = (rw e at known).0
        look (Some job) e = refused (was_named world.store.history id) unnamed (stored_named merge world id job kept e)

    in_steps : (version : ℕ) (change : ManifestChange) (value : Manifest) (took : Bool) → stood (answer_by (PutsManifest version change value) strike world.store) ≡ took → Lawful merge caller world (PutsManifest version change value)
        → IsIn id (cond took (steps_in (PutManifest change)) []) → ⊥
    in_steps version change value false e lawful there = there
    in_steps version (Commit steps) value true e lawful there =
        let fits = lawful (stood_version strike world.store version (Commit steps) value e) in
        unknown fits.specs (all_at (IsKnownTo caller world fits.specs) (map job_of steps) id (all_map (IsKnownTo caller world fits.specs) job_of steps fits.known) there)
    in_steps version (ManifestEpoch epoch) value true e lawful there = there
    in_steps version (Flush name segment floor tick) value true e lawful there = there

    at : (x : Exchange) → Lawful merge caller world x → IsIn id (firsts (named_specs (event_of x world.store))) ⊎ IsIn id (cond (stood (answer_by x strike world.store)) (steps_in (event_of x world.store)) []) → ⊥
    at (PutsManifest version change value) lawful (inl there) = there
    at (PutsManifest version change value) lawful (inr there) = in_steps version change value (stood (answer_by (PutsManifest version change value) strike world.store)) refl lawful there
    at (PutsRecords version change epoch jobs) lawful (inl there) = in_named change lawful.0 there
    at (PutsRecords version change epoch jobs) lawful (inr there) = none_of id (stood (answer_by (PutsRecords version change epoch jobs) strike world.store)) there
    at (Plain (PutManifest change)) lawful there = absurd lawful
    at (Plain (PutRecords change)) lawful there = absurd lawful
    at (Plain event) lawful (inl there) = there
    at (Plain event) lawful (inr there) = none_of id (stood (answer_by (Plain event) strike world.store)) there
    at (DrawsJob moment) lawful (inl there) = there
    at (DrawsJob moment) lawful (inr there) = none_of id (stood (answer_by (DrawsJob moment) strike world.store)) there
    at (DrawsTable moment) lawful (inl there) = there
    at (DrawsTable moment) lawful (inr there) = none_of id (stood (answer_by (DrawsTable moment) strike world.store)) there
    at (PutsTable table rows) lawful (inl there) = there
    at (PutsTable table rows) lawful (inr there) = none_of id (stood (answer_by (PutsTable table rows) strike world.store)) there
    at ListsTables lawful (inl there) = there
    at ListsTables lawful (inr there) = none_of id (stood (answer_by ListsTables strike world.store)) there
    at (DeletesTable table) lawful (inl there) = there
    at (DeletesTable table) lawful (inr there) = none_of id (stood (answer_by (DeletesTable table) strike world.store)) there

-- New ids stay new whatever others do.
pub rivals_fresh : {B : Type 0} (who : Caller) (pairs : List (ℕ × B)) (old new : World) → CallsKeep who.merge → Keeps who.merge old → Rivals who old new → AreFresh who.party old pairs → AreFresh who.party new pairs
rivals_fresh who pairs old new keep kept rivals h =
    rivals_hold who (λ world. AreFresh who.party world pairs) keep (λ world call there rival one. fresh_on who.party call.line call.party call.exchange call.strike world pairs
    (λ id drew fresh. others_mention_none who.merge who.party call.party call.line call.exchange call.strike world rival.other there rival.lawful id drew (not_named world.store.history id fresh (was_named world.store.history id) refl)) one) old new kept rivals h

-- ---- draws

pub number : (moment n : ℕ) → n < 2 ^ 80 → number_of (id_of moment n) ≡ n
number moment n small = mod-mul-add (moment % 2 ^ 48) (2 ^ 80) n small

-- The next id has a greater number than each drawn one.
next_is_above : (merge : Operator) (world : World) (moment id : ℕ) → Keeps merge world → DrawFits world.store → IsTrue (contains (drawn_jobs world.store.history) id) → id ≢ next_job_id moment world.store
next_is_above merge world moment id kept short drawn same =
    let few = kept.facts.draws.few in
    let low = all_at _ (drawn_jobs world.store.history) id kept.facts.draws.jobs_counted (contains_in (drawn_jobs world.store.history) id drawn) in
    let next = number moment (world.store.jobs_drawn + 1) (omega (arith, few, short)) in
    let equal = ap number_of same in
    omega (arith, low, next, equal)

-- After a draw the drawn id is new too.
pub drawn_fresh : {B : Type 0} (who : Caller) (world : World) (moment : ℕ) (x : B) (pairs : List (ℕ × B)) → Keeps who.merge world → DrawFits world.store → AreFresh who.party world pairs
    → AreFresh who.party (after_call who.line who.party (DrawsJob moment) None world) (pairs ++ (next_job_id moment world.store, x) ∷ [])
drawn_fresh {B} who world moment x pairs kept short h =
    let id = next_job_id moment world.store in
    let entry = entry_by who.line who.party (DrawsJob moment) None world.store in
    let before = fresh_on who.party who.line who.party (DrawsJob moment) None world pairs (λ other drew fresh. refl) h in
    record {
      drawn = all_push _ pairs (id, x) before.drawn
          (any_push_yes (λ (e : Entry). party_eq who.party e.party && is_draw_of id e.event) world.store.history entry (rw (party_itself who.party, is_itself id) refl));
      fresh = all_push _ pairs (id, x) before.fresh (fresh_push world.store.history entry id refl (unmentioned (is_mentioned world.store.history id) refl));
      once = pairs_push _ pairs (id, x) h.once (all_to _ _ pairs (λ p there drew. next_is_above who.merge world moment p.0 kept short (drew_drawn who.party world.store.history p.0 drew)) h.drawn);
    }
  where
    unmentioned : (b : Bool) → is_mentioned world.store.history (next_job_id moment world.store) ≡ b → is_mentioned world.store.history (next_job_id moment world.store) ≡ false
    unmentioned false e = e
    unmentioned true e = absurd (next_is_above who.merge world moment (next_job_id moment world.store) kept short (mentioned_drawn who.merge world (next_job_id moment world.store) kept e) refl)

-- ---- specs of new ids

-- Specs give the same spec for all jobs that the entry mentions.
abbrev SameFor : (ℕ → JobSpec) → (ℕ → JobSpec) → Entry → Type 0
SameFor one other entry = AllByRecursion (λ id. one id ≡ other id) (mentioned_in entry)

stepped_same : (tables : Tables) (f g : ℕ → JobSpec × List ℕ) (steps : List Step) (trees : Trees) → AllByRecursion (λ id. f id ≡ g id) (map job_of steps) → stepped_all tables f steps trees ≡ stepped_all tables g steps trees
stepped_same tables f g [] trees same = refl
stepped_same tables f g (step ∷ steps) trees same =
    ap (λ (p : JobSpec × List ℕ). stepped_all tables f steps (stepped_in tables step p.0 p.1 trees)) same.0 ∙ stepped_same tables f g steps (stepped_in tables step (g (job_of step)).0 (g (job_of step)).1 trees) same.1

event_same : (tables : Tables) (one other : ℕ → JobSpec) (event : Event) (o : Objects) → AllByRecursion (λ id. one id ≡ other id) (steps_in event) → after_event tables one event o ≡ after_event tables other event o
event_same tables one other (PutManifest (Commit steps)) o same =
    ap (λ (trees : Trees). record o { manifest = record o.manifest { version = o.manifest.version + 1; trees = trees } })
    (stepped_same tables (λ job. (one job, outputs_in o.records job)) (λ job. (other job, outputs_in o.records job)) steps o.manifest.trees
    (all_to (λ id. one id ≡ other id) _ (map job_of steps) (λ id there e. ap (λ spec. (spec, outputs_in o.records id)) e) same))
event_same tables one other (PutManifest (ManifestEpoch epoch)) o same = refl
event_same tables one other (PutManifest (Flush name segment floor tick)) o same = refl
event_same tables one other (PutRecords change) o same = refl
event_same tables one other event o same = refl

pub entry_same : (tables : Tables) (one other : ℕ → JobSpec) (entry : Entry) (o : Objects) → SameFor one other entry → after_entry tables one entry o ≡ after_entry tables other entry o
entry_same tables one other entry o same = by (stood entry.answer) (all_back (λ id. one id ≡ other id) (firsts (named_specs entry.event)) _ same)
  where
    by : (took : Bool) → AllByRecursion (λ id. one id ≡ other id) (cond took (steps_in entry.event) []) → cond took (after_event tables one entry.event o) o ≡ cond took (after_event tables other entry.event o) o
    by true steps = event_same tables one other entry.event o steps
    by false steps = refl

replayed_same : (tables : Tables) (one other : ℕ → JobSpec) (history : List Entry) (o : Objects) → AllByRecursion (SameFor one other) history → replayed_objects tables one history o ≡ replayed_objects tables other history o
replayed_same tables one other [] o same = refl
replayed_same tables one other (entry ∷ history) o same =
    ap (replayed_objects tables one history) (entry_same tables one other entry o same.0) ∙ replayed_same tables one other history (after_entry tables other entry o) same.1

-- Specs that are faithful stay so with other specs for ids that no entry mentions.
pub fresh_faithful : (world : World) (named : List (ℕ × JobSpec)) (specs : ℕ → JobSpec) → AllByRecursion (λ p. is_mentioned world.store.history p.0 ≡ false) named → Faithful world specs → Faithful world (with_specs named specs)
fresh_faithful world named specs fresh f = record {
  agrees = all_from _ world.store.history (λ entry there. all_from _ (named_specs entry.event) (λ p one.
      all_at (λ id. with_specs named specs id ≡ specs id) (mentioned_in entry) p.0 (all_at (SameFor (with_specs named specs) specs) world.store.history entry same there)
      (in_front p.0 (firsts (named_specs entry.event)) _ (in_map (λ (q : ℕ × JobSpec). q.0) (named_specs entry.event) p one))
      ∙ all_at (λ (q : ℕ × JobSpec). specs q.0 ≡ q.1) (named_specs entry.event) p (all_at (λ (e : Entry). AgreesWith specs e.event) world.store.history entry f.agrees there) one));
  manifests = λ front back e. subst (λ (o : Objects). option_map plain_manifest (manifest_with o.manifest.version world.past) ≡ Some o.manifest)
      (sym (replayed_same world.store.tables (with_specs named specs) specs front (plain_objects fresh_store) (all_front _ front back (subst (AllByRecursion (SameFor (with_specs named specs) specs)) (sym e) same)))) (f.manifests front back e);
}
  where
    not_found : (id : ℕ) → IsTrue (is_mentioned world.store.history id) → (pairs : List (ℕ × JobSpec)) → AllByRecursion (λ p. is_mentioned world.store.history p.0 ≡ false) pairs → find (λ p. id == p.0) pairs ≡ None
    not_found id was [] all = refl
    not_found id was (p ∷ pairs) all = by (id == p.0) refl (not_found id was pairs all.1)
      where
        by : (b : Bool) → (id == p.0) ≡ b → find (λ q. id == q.0) pairs ≡ None → cond b (Some p) (find (λ q. id == q.0) pairs) ≡ None
        by true e rest = absurd (refused (is_mentioned world.store.history p.0) all.0 (subst (λ n. IsTrue (is_mentioned world.store.history n)) ((Decides-eqb id p.0).0 e) was))
        by false e rest = rest

    same : AllByRecursion (SameFor (with_specs named specs) specs) world.store.history
    same = all_from _ world.store.history (λ entry there. all_from _ (mentioned_in entry) (λ id one.
        ap (spec_or (specs id)) (not_found id (any_of (λ (e : Entry). contains (mentioned_in e) id) world.store.history entry there (in_contains (mentioned_in entry) id one)) named fresh)))

-- New ids may be named.
pub names_fit : (party : Party) (world : World) (named : List (ℕ × JobSpec)) → AreFresh party world named → NamesFit party world named
names_fit party world named h = record { once = h.once; drawn = h.drawn; replays = λ specs faithful. fresh_faithful world named specs h.fresh faithful }

pub are_new : (party : Party) (world : World) (named : List (ℕ × JobSpec)) → AreFresh party world named → AreNew world named
are_new party world named h = all_to _ _ named (λ p there fresh. not_named world.store.history p.0 fresh (was_named world.store.history p.0) refl) h.fresh
