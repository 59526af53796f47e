-- The jobs that a poll adds may be named by its put of the records, though its commit may have moved or drained some of them already.
use Rattle.std.proofs.Common.{◌≡◌, ◌≢◌, refl, sym, ◌∙◌, ap, subst, ℕ, List, [], ◌∷◌, ◌++◌, cond, Bool, true, false, inl, inr, Some, None}
use Rattle.std.specs.Prelude.{IsTrue, ◌==◌, ◌&&◌, find, map}
use Rattle.std.specs.List.{AllByRecursion}
use Rattle.std.proofs.lemmas.Bool.Decides.{Decides-eqb}
use Rattle.std.proofs.lemmas.List.{append-nil}
use Rattle.row_model.specs.Lists.{Pairs}
use Rattle.row_model.specs.Rows.{Row}
use Rattle.row_model.specs.Fold.{Operator, IsLawful}
use Rattle.fleet_model.specs.Nodes.{Tables}
use Rattle.fleet_model.specs.Jobs.{JobSpec, job_with, contains}
use Rattle.fleet_model.specs.History.{Party, Step, Answer, Entry, stood}
use Rattle.fleet_model.specs.Store.{fresh_store, stored_jobs}
use Rattle.fleet_model.specs.Trees.{job_of}
use Rattle.fleet_model.specs.Work.Records.{firsts}
use Rattle.fleet_model.specs.Past.Replay.{named_specs, plain_objects, replayed_objects, after_entry}
use Rattle.fleet_model.specs.Exchanges.{Exchange}
use Rattle.step_model.specs.Past.{World}
use Rattle.step_model.specs.Entries.{drew_job, mentioned_in, was_named}
use Rattle.step_model.specs.Kept.Faithful.{Faithful, AgreesWith, with_specs, spec_or}
use Rattle.step_model.specs.LawfulRecords.{NamesFit}
use Rattle.step_model.specs.LawfulManifests.{IsKnownTo, StepsFit}
use Rattle.step_model.specs.Rivals.{Caller, Rivals, after_rival}
use Rattle.step_model.specs.Kept.Keeps.{Keeps}
use Rattle.step_model.specs.Kept.TablesKept.{PutsKept}
use Rattle.step_laws.specs.Runs.{CallsKeep}
use Rattle.step_laws.proofs.Elements.{IsIn, all_at, all_from, all_to, all_push, any_push_no, contains_no, in_front, in_contains, Cut, Whole, Before, cut_where}
use Rattle.step_laws.proofs.Alike.{replays_alike}
use Rattle.step_laws.proofs.Bodies.{Body, JobKept, whole_of}
use Rattle.step_laws.proofs.ManifestBodies.{with_manifest, faithful_before_manifest}
use Rattle.step_laws.proofs.MuteBodies.{entered, faithful_before, Matches}
use Rattle.step_laws.proofs.RecordsBodies.{faithful_before_records}
use Rattle.step_laws.proofs.Replays.{replayed_push}
use Rattle.step_laws.proofs.Respecs.{body_by, named_agree}
use Rattle.step_laws.proofs.TableBodies.{with_table, same_with_table, faithful_with_table}
use Rattle.rival_laws.proofs.Outcomes.{Outcome, Notes, Deletes, NewTable, NewManifest, NewRecords, outcome, put_manifest}
use Rattle.course_laws.proofs.Calls.{rivals_hold}
use Rattle.course_laws.proofs.Later.{entry_by, call_history}
use Rattle.course_laws.proofs.NewIds.{AreFresh, names_fit, are_new, others_mention_none, entry_same}
use Rattle.commit_laws.proofs.CommitSteps.{steps_keep}
use Rattle.commit_laws.proofs.CommitJobs.{entry_of, manifest_of}
use Rattle.commit_laws.proofs.Commits.{start, faithful_after}
use Rattle.commit_laws.proofs.Midway.{KnownCase, Stored, New, known_case}
use Rattle.course_laws.proofs.NewIds.{drew_grows}
use Rattle.step_laws.proofs.Polls.{in_map}
use Rattle.rival_laws.proofs.FreeTables.{refused}

-- The party drew the ids of these jobs, and no put that took effect named them. Each replay may have their specs.
pub record MayName (party : Party) (world : World) (named : List (ℕ × JobSpec)) : Type 0 where
  pub once : Pairs (λ p q. p.0 ≢ q.0) named
  pub drawn : AllByRecursion (λ p. IsTrue (drew_job party world.store.history p.0)) named
  pub unnamed : AllByRecursion (λ p. was_named world.store.history p.0 ≡ false) named
  pub replays : (specs : ℕ → JobSpec) → Faithful world specs → Faithful world (with_specs named specs)

pub fits_to_name : (party : Party) (world : World) (named : List (ℕ × JobSpec)) → MayName party world named → NamesFit party world named
fits_to_name party world named h = record { once = h.once; drawn = h.drawn; replays = h.replays }

pub fresh_named : (party : Party) (world : World) (named : List (ℕ × JobSpec)) → AreFresh party world named → MayName party world named
fresh_named party world named h = record { once = h.once; drawn = h.drawn; unnamed = are_new party world named h; replays = (names_fit party world named h).replays }

-- ---- specs of other jobs

-- Named specs leave the specs of other jobs.
pub others_same : (named : List (ℕ × JobSpec)) (specs : ℕ → JobSpec) (id : ℕ) → (IsIn id (firsts named) → ⊥) → with_specs named specs id ≡ specs id
others_same named specs id other = ap (spec_or (specs id)) (none named other)
  where
    none : (xs : List (ℕ × JobSpec)) → (IsIn id (firsts xs) → ⊥) → find (λ p. id == p.0) xs ≡ None
    none [] h = refl
    none (x ∷ xs) h = by (id == x.0) refl (none xs (λ there. h (inr there)))
      where
        by : (b : Bool) → (id == x.0) ≡ b → find (λ p. id == p.0) xs ≡ None → cond b (Some x) (find (λ p. id == p.0) xs) ≡ None
        by true e rest = absurd (h (inl (sym ((Decides-eqb id x.0).0 e))))
        by false e rest = rest

-- If the specs agree already, nothing changes.
agreeing_same : (named : List (ℕ × JobSpec)) (specs : ℕ → JobSpec) → AllByRecursion (λ p. specs p.0 ≡ p.1) named → with_specs named specs ≡ specs
agreeing_same named specs agrees = λ i id. at id named agrees i
  where
    at : (id : ℕ) (xs : List (ℕ × JobSpec)) → AllByRecursion (λ p. specs p.0 ≡ p.1) xs → spec_or (specs id) (find (λ p. id == p.0) xs) ≡ specs id
    at id [] h = refl
    at id (x ∷ xs) h = by (id == x.0) refl (at id xs h.1)
      where
        by : (b : Bool) → (id == x.0) ≡ b → spec_or (specs id) (find (λ p. id == p.0) xs) ≡ specs id → spec_or (specs id) (cond b (Some x) (find (λ p. id == p.0) xs)) ≡ specs id
        by true e rest = sym h.0 ∙ ap specs (sym ((Decides-eqb id x.0).0 e))
        by false e rest = rest

-- ---- an entry that mentions none of the jobs

unnamed_stays : (history : List Entry) (entry : Entry) (id : ℕ) → (IsIn id (firsts (named_specs entry.event)) → ⊥) → was_named history id ≡ false → was_named (history ++ entry ∷ []) id ≡ false
unnamed_stays history entry id other h =
    any_push_no (λ (e : Entry). contains (firsts (named_specs e.event)) id && stood e.answer) history entry (rw (contains_no (firsts (named_specs entry.event)) id other) refl) ∙ h

-- A party may still name its jobs after an entry that mentions none, if tables stay and no further replay is faithful.
pub named_on : (party : Party) (world new : World) (named : List (ℕ × JobSpec)) (entry : Entry) → new.store.tables ≡ world.store.tables → new.store.history ≡ world.store.history ++ entry ∷ [] → ((specs : ℕ → JobSpec) → Faithful new specs → Faithful world specs)
    → ((p : ℕ × JobSpec) → IsIn p named → contains (mentioned_in entry) p.0 ≡ false) → MayName party world named → MayName party new named
named_on party world new named entry tables grown before none h = record {
  once = h.once;
  drawn = all_to _ _ named (λ p there drew. subst (λ history. IsTrue (drew_job party history p.0)) (sym grown) (drew_grows party world.store.history entry p.0 drew)) h.drawn;
  unnamed = all_to _ _ named (λ p there was. subst (λ history. was_named history p.0 ≡ false) (sym grown)
      (unnamed_stays world.store.history entry p.0 (λ one. refused (contains (mentioned_in entry) p.0) (none p there) (in_contains (mentioned_in entry) p.0 (in_front p.0 (firsts (named_specs entry.event)) _ one))) was)) h.unnamed;
  replays = λ specs f. faithful specs f (before specs f) (h.replays specs (before specs f));
}
  where
    -- No job that the entry mentions is among the named ones.
    not_ours : (id : ℕ) → IsIn id (mentioned_in entry) → IsIn id (firsts named) → ⊥
    not_ours id there one = at named (λ p here. none p here) one
      where
        at : (xs : List (ℕ × JobSpec)) → ((p : ℕ × JobSpec) → IsIn p xs → contains (mentioned_in entry) p.0 ≡ false) → IsIn id (firsts xs) → ⊥
        at [] all one = one
        at (x ∷ xs) all (inl same) = refused (contains (mentioned_in entry) x.0) (all x (inl refl)) (subst (λ n. IsTrue (contains (mentioned_in entry) n)) (sym same) (in_contains (mentioned_in entry) id there))
        at (x ∷ xs) all (inr one) = at xs (λ p here. all p (inr here)) one

    same : (specs : ℕ → JobSpec) → AllByRecursion (λ id. with_specs named specs id ≡ specs id) (mentioned_in entry)
    same specs = all_from _ (mentioned_in entry) (λ id there. others_same named specs id (not_ours id there))

    faithful : (specs : ℕ → JobSpec) → Faithful new specs → Faithful world specs → Faithful world (with_specs named specs) → Faithful new (with_specs named specs)
    faithful specs f was g = record {
      agrees = subst (AllByRecursion (λ (e : Entry). AgreesWith (with_specs named specs) e.event)) (sym grown) (all_push _ world.store.history entry g.agrees
          (all_from _ (named_specs entry.event) (λ p there. all_at (λ id. with_specs named specs id ≡ specs id) (mentioned_in entry) p.0 (same specs) (in_front p.0 (firsts (named_specs entry.event)) _ (in_map (λ (q : ℕ × JobSpec). q.0) (named_specs entry.event) p there))
          ∙ all_at (λ (q : ℕ × JobSpec). specs q.0 ≡ q.1) (named_specs entry.event) p (all_at (λ (e : Entry). AgreesWith specs e.event) (world.store.history ++ entry ∷ []) entry (subst (AllByRecursion (λ (e : Entry). AgreesWith specs e.event)) grown f.agrees) (last world.store.history)) there)));
      manifests = λ front back e. subst (Matches new.past) (replays front back e) (f.manifests front back e);
    }
      where
        last : (xs : List Entry) → IsIn entry (xs ++ entry ∷ [])
        last [] = inl refl
        last (x ∷ xs) = inr (last xs)

        old : (front rest : List Entry) → front ++ rest ≡ world.store.history → replayed_objects world.store.tables specs front (plain_objects fresh_store) ≡ replayed_objects world.store.tables (with_specs named specs) front (plain_objects fresh_store)
        old front rest part = replays_alike world specs (with_specs named specs) was g front rest part

        by : (front : List Entry) → {back : List Entry} → Cut front back world.store.history entry → replayed_objects world.store.tables specs front (plain_objects fresh_store) ≡ replayed_objects world.store.tables (with_specs named specs) front (plain_objects fresh_store)
        by front (Before rest part) = old front rest part
        by front (Whole all) =
            ap (λ es. replayed_objects world.store.tables specs es (plain_objects fresh_store)) all ∙ replayed_push world.store.tables specs world.store.history entry (plain_objects fresh_store)
            ∙ sym (entry_same world.store.tables (with_specs named specs) specs entry (replayed_objects world.store.tables specs world.store.history (plain_objects fresh_store)) (same specs))
            ∙ ap (after_entry world.store.tables (with_specs named specs) entry) (old world.store.history [] (append-nil world.store.history))
            ∙ sym (replayed_push world.store.tables (with_specs named specs) world.store.history entry (plain_objects fresh_store)) ∙ ap (λ es. replayed_objects world.store.tables (with_specs named specs) es (plain_objects fresh_store)) (sym all)

        replays : (front back : List Entry) → front ++ back ≡ new.store.history → replayed_objects new.store.tables specs front (plain_objects fresh_store) ≡ replayed_objects new.store.tables (with_specs named specs) front (plain_objects fresh_store)
        replays front back e = subst (λ (ts : Tables). replayed_objects ts specs front (plain_objects fresh_store) ≡ replayed_objects ts (with_specs named specs) front (plain_objects fresh_store)) (sym tables) (by front (cut_where front back world.store.history entry (e ∙ grown)))

-- ---- a table

named_table : (party : Party) (world : World) (table : ℕ × List Row) (named : List (ℕ × JobSpec)) → PutsKept world.store.history world.store.tables → MayName party world named → MayName party (with_table world table) named
named_table party world table named puts h = record {
  once = h.once;
  drawn = h.drawn;
  unnamed = h.unnamed;
  replays = λ specs f. faithful_with_table world table (with_specs named specs) puts (h.replays specs (record {
    agrees = f.agrees;
    manifests = λ front back e. subst (Matches world.past) (same_with_table world table specs puts front back e) (f.manifests front back e);
  }));
}

-- ---- calls of others

-- A party may still name its jobs after a lawful call of any party that mentions none of them.
named_outcome : (merge : Operator) (party : Party) (world new : World) (caller : Party) (x : Exchange) (named : List (ℕ × JobSpec)) (entry : Entry) → Keeps merge world → new.store.history ≡ world.store.history ++ entry ∷ []
    → ((p : ℕ × JobSpec) → IsIn p named → contains (mentioned_in entry) p.0 ≡ false) → Outcome merge caller world x new → MayName party world named → MayName party new named
named_outcome merge party world new caller x named entry k grown none (Notes jobs_drawn tables_drawn other mute is) h =
    named_on party world new named entry (ap (λ (t : World). t.store.tables) is) grown (λ specs f. faithful_before world specs world.store.deleted jobs_drawn tables_drawn other (subst (λ t. Faithful t specs) is f)) none h
named_outcome merge party world new caller x named entry k grown none (Deletes table other same mute fits is) h =
    named_on party world new named entry (ap (λ (t : World). t.store.tables) is) grown (λ specs f. faithful_before world specs (world.store.deleted ++ table ∷ []) world.store.jobs_drawn world.store.tables_drawn other (subst (λ t. Faithful t specs) is f)) none h
named_outcome merge party world new caller x named entry k grown none (NewTable table rows other mute fits is) h =
    named_on party (with_table world (table, rows)) new named entry (ap (λ (t : World). t.store.tables) is) grown
    (λ specs f. faithful_before (with_table world (table, rows)) specs world.store.deleted world.store.jobs_drawn world.store.tables_drawn other (subst (λ t. Faithful t specs) is f)) none
    (named_table party world (table, rows) named (whole_of merge world k).puts h)
named_outcome merge party world new caller x named entry k grown none (NewManifest version change value line answer took same fits is) h =
    named_on party world new named entry (ap (λ (t : World). t.store.tables) is) grown
    (λ specs f. faithful_before_manifest merge world k.stored.replay.specs specs (put_manifest world value) _ (whole_of merge world k).body refl (subst (λ t. Faithful t specs) is f)) none h
named_outcome merge party world new caller x named entry k grown none (NewRecords change epoch jobs line answer took names fits is) h =
    named_on party world new named entry (ap (λ (t : World). t.store.tables) is) grown (λ specs f. faithful_before_records world specs _ _ (subst (λ t. Faithful t specs) is f)) none h

pub rivals_named : (who : Caller) (named : List (ℕ × JobSpec)) (old new : World) → CallsKeep who.merge → Keeps who.merge old → Rivals who old new → MayName who.party old named → MayName who.party new named
rivals_named who named old new keep kept rivals h =
    rivals_hold who (λ world. MayName who.party world named) keep (λ world call there rival one.
    named_outcome who.merge who.party world (after_rival call world) call.party call.exchange named (entry_by call.line call.party call.exchange call.strike world.store) there (call_history call.line call.party call.exchange call.strike world.store)
    (λ p here. others_mention_none who.merge who.party call.party call.line call.exchange call.strike world rival.other there rival.lawful p.0
    (all_at (λ (q : ℕ × JobSpec). IsTrue (drew_job who.party world.store.history q.0)) named p one.drawn here) (all_at (λ (q : ℕ × JobSpec). was_named world.store.history q.0 ≡ false) named p one.unnamed here))
    (outcome who.merge call.exchange call.line call.party call.strike world rival.lawful rival.strike) one) old new kept rivals h

-- ---- the poll's own calls

-- A get mentions no job.
pub own_noted : (party : Party) (world : World) (jobs_drawn tables_drawn : ℕ) (named : List (ℕ × JobSpec)) (entry : Entry) → mentioned_in entry ≡ [] → MayName party world named → MayName party (entered world world.store.deleted jobs_drawn tables_drawn entry) named
own_noted party world jobs_drawn tables_drawn named entry none h =
    named_on party world (entered world world.store.deleted jobs_drawn tables_drawn entry) named entry refl refl (λ specs f. faithful_before world specs world.store.deleted jobs_drawn tables_drawn entry f) (λ p there. ap (λ ids. contains ids p.0) none) h

-- A put of the records that is refused names the jobs with their specs, so each later replay has these.
pub own_refused : (party : Party) (world : World) (named : List (ℕ × JobSpec)) (entry : Entry) → named_specs entry.event ≡ named → stood entry.answer ≡ false → MayName party world named
    → MayName party (entered world world.store.deleted world.store.jobs_drawn world.store.tables_drawn entry) named
own_refused party world named entry names lost h = record {
  once = h.once;
  drawn = all_to _ _ named (λ p there drew. drew_grows party world.store.history entry p.0 drew) h.drawn;
  unnamed = all_to _ _ named (λ p there was. any_push_no (λ (e : Entry). contains (firsts (named_specs e.event)) p.0 && stood e.answer) world.store.history entry (never (contains (firsts (named_specs entry.event)) p.0) (stood entry.answer) lost) ∙ was) h.unnamed;
  replays = λ specs f. subst (Faithful (entered world world.store.deleted world.store.jobs_drawn world.store.tables_drawn entry)) (sym (agreeing_same named specs (subst (AllByRecursion (λ p. specs p.0 ≡ p.1)) names
      (all_at (λ (e : Entry). AgreesWith specs e.event) (world.store.history ++ entry ∷ []) entry f.agrees (last world.store.history))))) f;
}
  where
    never : (a b : Bool) → b ≡ false → (a && b) ≡ false
    never true b e = e
    never false b e = refl

    last : (xs : List Entry) → IsIn entry (xs ++ entry ∷ [])
    last [] = inl refl
    last (x ∷ xs) = inr (last xs)

-- The job is among the named ones, with the spec by which the commit does it.
pub record IsNamed (own : ℕ → JobSpec) (named : List (ℕ × JobSpec)) (job : ℕ) : Type 0 where
  pub p : ℕ × JobSpec
  pub there : IsIn p named
  pub id : p.0 ≡ job
  pub spec : p.1 ≡ own job

-- A commit that takes effect may have done some of the jobs at once.
pub own_committed : (merge : Operator) (party : Party) (world : World) (named : List (ℕ × JobSpec)) (own : ℕ → JobSpec) (line : ℕ) (steps : List Step) (answer : Answer) → stood answer ≡ true → IsLawful merge → Keeps merge world → AreFresh party world named
    → AllByRecursion (λ step. IsKnownTo party world own (job_of step)) steps → StepsFit world own world.store.manifest.trees [] steps
    → ((id : ℕ) → job_with id (stored_jobs world.store) ≡ None → IsIn id (map job_of steps) → IsNamed own named id) → MayName party (with_manifest world (manifest_of world own steps) (entry_of line party steps answer)) named
own_committed merge party world named own line steps answer took lawful k fresh known fits covered = record {
  once = fresh.once;
  drawn = all_to _ _ named (λ p there drew. drew_grows party world.store.history (entry_of line party steps answer) p.0 drew) fresh.drawn;
  unnamed = all_to _ _ named (λ p there was. unnamed_stays world.store.history (entry_of line party steps answer) p.0 (λ one. one) was) (are_new party world named fresh);
  replays = λ specs f. after specs (faithful_before_manifest merge world k.stored.replay.specs specs (manifest_of world own steps) (entry_of line party steps answer) (whole_of merge world k).body refl f);
}
  where
    after : (specs : ℕ → JobSpec) → Faithful world specs → Faithful (with_manifest world (manifest_of world own steps) (entry_of line party steps answer)) (with_specs named specs)
    after specs f = faithful_after merge world (with_specs named specs) own line party steps answer took (record {
      body = b;
      known = known;
      same = all_from _ steps (λ step there. same (job_of step) (in_map job_of steps step there) (known_case party world own (job_of step) (all_at (λ s. IsKnownTo party world own (job_of s)) steps step known there)));
      each = fits;
      midway = steps_keep merge world party (with_specs named specs) own world.store.manifest.trees world.store.manifest.horizon [] steps lawful b known fits (start merge world (with_specs named specs) b);
    })
      where
        g : Faithful world (with_specs named specs)
        g = (names_fit party world named fresh).replays specs f

        b : Body merge world (with_specs named specs)
        b = body_by merge world k.stored.replay.specs (with_specs named specs) (whole_of merge world k).body g

        same : (id : ℕ) → IsIn id (map job_of steps) → KnownCase party world own id → with_specs named specs id ≡ own id
        same id there (Stored job one stored is spec) =
            ap (with_specs named specs) is ∙ (all_at (JobKept merge world (with_specs named specs)) (stored_jobs world.store) job b.jobs one).spec (with_specs named specs) g ∙ sym spec
        same id there (New none drew unmentioned) =
            let found = covered id none there in
            ap (with_specs named specs) (sym found.id) ∙ all_at (λ p. with_specs named specs p.0 ≡ p.1) named found.p (named_agree named specs fresh.once) found.there ∙ found.spec
