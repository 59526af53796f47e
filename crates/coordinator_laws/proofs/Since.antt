-- What is so since a poll got its two objects, and the case by which its steps are judged.
use Rattle.std.proofs.Common.{◌≡◌, refl, sym, ◌∙◌, ap, subst, ℕ, ◌+◌, ◌<◌, ◌≤◌, List, true, false, inl, inr, ◌⊎◌, Option, Some, None, arith}
use Rattle.std.specs.Prelude.{IsTrue}
use Rattle.std.specs.List.{concat}
use Rattle.row_model.specs.Lists.{Pairs}
use Rattle.row_model.specs.Fold.{IsLawful}
use Rattle.fleet_model.specs.Nodes.{Trees}
use Rattle.fleet_model.specs.Jobs.{JobSpec, Job, is_active, job_with, contains, nodes_of}
use Rattle.fleet_model.specs.History.{Event, GetManifest, GetRecords, DrawJob, Done, Entry, stood}
use Rattle.fleet_model.specs.Store.{Records, stored_jobs, jobs_in, records_epoch, is_held}
use Rattle.fleet_model.specs.Handles.{job_tables, context_tables}
use Rattle.fleet_model.specs.Past.Replay.{named_specs}
use Rattle.fleet_model.specs.Work.Records.{firsts}
use Rattle.fleet_model.specs.Invariants.Invariant.{JobTablesHeld}
use Rattle.rival_laws.proofs.Outcomes.{Notes}
use Rattle.fleet_model.specs.Work.Gates.{reserves_nodes}
use Rattle.fleet_model.specs.Invariants.JobsFit.{HoldApart, NodesHeldOnce}
use Rattle.fleet_model.specs.Exchanges.{Plain, DrawsJob, next_job_id, answer_of}
use Rattle.step_model.specs.Past.{World}
use Rattle.step_model.specs.Entries.{was_named, is_mentioned, drew_job}
use Rattle.step_model.specs.LawfulTables.{DrawFits}
use Rattle.step_model.specs.Rivals.{Caller, Rivals, after_call}
use Rattle.step_model.specs.Kept.Keeps.{Keeps}
use Rattle.step_model.specs.Steps.PollSteps.{PollAsk, input_of}
use Rattle.step_laws.specs.Runs.{CallsKeep}
use Rattle.step_laws.proofs.Elements.{IsIn, all_at, all_from, all_to, all_back, all_true_front}
use Rattle.step_laws.proofs.Changed.{found_job}
use Rattle.step_laws.proofs.Held.{held_put}
use Rattle.step_laws.proofs.Mute.{IsMute, mute_event}
use Rattle.step_laws.proofs.MuteBodies.{entered}
use Rattle.step_laws.proofs.Quiet.{world_entered}
use Rattle.step_laws.proofs.TableBodies.{active_if_compacted}
use Rattle.rival_laws.proofs.Coordinators.{put_grows}
use Rattle.course_laws.proofs.Calls.{keeps_after, done_later}
use Rattle.course_laws.proofs.Later.{Later, later_itself, later_by, later_then, rivals_later}
use Rattle.course_laws.proofs.NewIds.{AreFresh, not_named, stored_named}
use Rattle.commit_laws.proofs.Midway.{two_jobs, apart_turned}
use Rattle.coordinator_laws.proofs.Jobs.{Among, IsSubmitted}
use Rattle.coordinator_laws.proofs.Reached.{Case}
use Rattle.coordinator_laws.proofs.Quiet.{JobMoves, Stays, Goes, MovedJob, Moves, Quiet, quiet_itself, quiet_then, quiet_noted, HasEpoch, rivals_after}
use Rattle.coordinator_laws.proofs.Transfer.{AreKept, kept_outcome, rivals_kept, midway_from}
use Rattle.coordinator_laws.proofs.Adoption.{ends_stays}
use Rattle.step_laws.proofs.OpenJobs.{open_reserves}
use Rattle.commit_laws.proofs.AtOnce.{submitted_free}
use Rattle.rival_laws.proofs.FreeTables.{refused}

-- ---- what is so since a get

-- What is so at a later time than a get: the coordinator put its epoch, and as long as no later epoch is in the records, others left jobs and trees.
pub record Since (who : Caller) (e : ℕ) (base world : World) : Type 0 where
  pub kept : Keeps who.merge world
  pub own : HasEpoch who.party e world
  pub later : Later base world
  pub quiet : records_epoch world.store.records ≤ e → Quiet base world

pub since_itself : (who : Caller) (e : ℕ) (world : World) → Keeps who.merge world → HasEpoch who.party e world → Since who e world world
since_itself who e world kept own = record { kept = kept; own = own; later = later_itself world; quiet = λ low. quiet_itself world }

pub since_met : (who : Caller) (e : ℕ) (base old new : World) → CallsKeep who.merge → Since who e base old → Rivals who old new → Since who e base new
since_met who e base old new keep s rivals =
    let a = rivals_after who e old new keep s.kept s.own rivals in
    let rises = a.rises in
    record {
      kept = a.kept;
      own = a.own;
      later = later_then base old new s.later (rivals_later who old new rivals);
      quiet = λ low. quiet_then base old new (s.quiet (omega (arith, rises, low))) (a.quiet low);
    }

-- A call of one's own that leaves an entry alone.
pub record Noted (who : Caller) (world new : World) : Type 0 where
  pub jobs_drawn : ℕ
  pub tables_drawn : ℕ
  pub entry : Entry
  pub mute : IsMute (stood entry.answer) entry.event
  pub is : new ≡ entered world world.store.deleted jobs_drawn tables_drawn entry
  pub kept : Keeps who.merge new
  pub later : Later world new

pub since_noted : (who : Caller) (e : ℕ) (base world new : World) → Since who e base world → Noted who world new → Since who e base new
since_noted who e base world new s n = record {
  kept = n.kept;
  own = subst (HasEpoch who.party e) (sym n.is) (record { put = put_grows who.party world.store.history n.entry e s.own.put; recorded = s.own.recorded });
  later = later_then base world new s.later n.later;
  quiet = λ low. subst (Quiet base) (sym n.is) (quiet_then base world _ (s.quiet (subst (λ (t : World). records_epoch t.store.records ≤ e) n.is low)) (quiet_noted world world.store.deleted n.jobs_drawn n.tables_drawn n.entry n.mute));
}

pub kept_noted : (who : Caller) (trees : Trees) (horizon : ℕ) (world new : World) → Noted who world new → AreKept who.merge trees horizon world → AreKept who.merge trees horizon new
kept_noted who trees horizon world new n k = kept_outcome who.merge trees horizon world new who.party (Plain GetManifest) refl (Notes n.jobs_drawn n.tables_drawn n.entry n.mute n.is) k

-- A get of the manifest or the records leaves its entry, and changes nothing else.
pub got_noted : (who : Caller) (event : Event) (world : World) → (event ≡ GetManifest) ⊎ (event ≡ GetRecords) → CallsKeep who.merge → Keeps who.merge world → Noted who world (after_call who.line who.party (Plain event) None world)
got_noted who event world (inl same) keep kept = subst (λ ev. Noted who world (after_call who.line who.party (Plain ev) None world)) (sym same) (record {
  jobs_drawn = world.store.jobs_drawn;
  tables_drawn = world.store.tables_drawn;
  entry = record { line = who.line; party = who.party; event = GetManifest; answer = answer_of (Plain GetManifest) world.store };
  mute = mute_event (stood (answer_of (Plain GetManifest) world.store)) GetManifest refl;
  is = world_entered world world.store.deleted world.store.jobs_drawn world.store.tables_drawn (record { line = who.line; party = who.party; event = GetManifest; answer = answer_of (Plain GetManifest) world.store });
  kept = keeps_after who (Plain GetManifest) world keep kept tt;
  later = later_by who.line who.party (Plain GetManifest) None world;
})
got_noted who event world (inr same) keep kept = subst (λ ev. Noted who world (after_call who.line who.party (Plain ev) None world)) (sym same) (record {
  jobs_drawn = world.store.jobs_drawn;
  tables_drawn = world.store.tables_drawn;
  entry = record { line = who.line; party = who.party; event = GetRecords; answer = answer_of (Plain GetRecords) world.store };
  mute = mute_event (stood (answer_of (Plain GetRecords) world.store)) GetRecords refl;
  is = world_entered world world.store.deleted world.store.jobs_drawn world.store.tables_drawn (record { line = who.line; party = who.party; event = GetRecords; answer = answer_of (Plain GetRecords) world.store });
  kept = keeps_after who (Plain GetRecords) world keep kept tt;
  later = later_by who.line who.party (Plain GetRecords) None world;
})

pub drawn_noted : (who : Caller) (moment : ℕ) (world : World) → CallsKeep who.merge → Keeps who.merge world → DrawFits world.store → Noted who world (after_call who.line who.party (DrawsJob moment) None world)
drawn_noted who moment world keep kept room = record {
  jobs_drawn = world.store.jobs_drawn + 1;
  tables_drawn = world.store.tables_drawn;
  entry = record { line = who.line; party = who.party; event = DrawJob (next_job_id moment world.store); answer = Done 0 };
  mute = mute_event true (DrawJob (next_job_id moment world.store)) refl;
  is = world_entered world world.store.deleted (world.store.jobs_drawn + 1) world.store.tables_drawn (record { line = who.line; party = who.party; event = DrawJob (next_job_id moment world.store); answer = Done 0 });
  kept = keeps_after who (DrawsJob moment) world keep kept room;
  later = later_by who.line who.party (DrawsJob moment) None world;
}

-- ---- the two objects that a poll got

-- What is so as the poll got both objects: they have its epoch.
pub record Got (who : Caller) (e : ℕ) (m r : World) (got : Records) : Type 0 where
  pub kept_first : Keeps who.merge m
  pub kept_second : Keeps who.merge r
  pub is_got : r.store.records ≡ Some got
  pub epoch : got.epoch ≡ e
  pub first_epoch : m.store.manifest.epoch ≡ e
  pub between : Quiet m r

-- What is so later, with the drawn ids.
pub record Ready (who : Caller) (e : ℕ) (m r world : World) : Type 0 where
  pub first : Since who e m world
  pub second : Since who e r world
  pub trees : AreKept who.merge m.store.manifest.trees m.store.manifest.horizon world

pub ready_met : (who : Caller) (e : ℕ) (m r old new : World) → CallsKeep who.merge → Ready who e m r old → Rivals who old new → Ready who e m r new
ready_met who e m r old new keep s rivals = record { first = since_met who e m old new keep s.first rivals; second = since_met who e r old new keep s.second rivals; trees = rivals_kept who m.store.manifest.trees m.store.manifest.horizon old new rivals s.trees }

pub ready_noted : (who : Caller) (e : ℕ) (m r world new : World) → Ready who e m r world → Noted who world new → Ready who e m r new
ready_noted who e m r world new s n = record { first = since_noted who e m world new s.first n; second = since_noted who e r world new s.second n; trees = kept_noted who m.store.manifest.trees m.store.manifest.horizon world new n s.trees }

-- ---- the case of the poll's steps

-- Later names of jobs.
named_later : (old new : World) (id : ℕ) → Later old new → IsTrue (was_named old.store.history id) → IsTrue (was_named new.store.history id)
named_later old new id later h = done_later (λ event. contains (firsts (named_specs event)) id) old new later h

-- What a poll got and drew is a case to judge its steps by, as long as no later epoch is in the records.
pub case_at : (who : Caller) (e : ℕ) (m r h : World) (got : Records) (ask : PollAsk) (drawn : List (ℕ × JobSpec)) → IsLawful who.merge → Got who e m r got → Ready who e m r h → AreFresh who.party h drawn → records_epoch h.store.records ≤ e
    → Case who.merge who.party h (input_of ask r.store.tables m.store.manifest got) got.jobs drawn m.store.manifest.trees
case_at who e m r h got ask drawn lawful g s fresh low = record {
  lawful = lawful;
  kept = s.first.kept;
  horizon = m.store.manifest.horizon;
  midway = midway_from who.merge m h g.kept_first (s.first.quiet low) s.trees;
  rows = (s.second.quiet low).rows;
  pieces = all_to _ _ m.store.manifest.trees (λ seg there held. all_to _ _ seg.tree (λ node one all. all_to _ _ node.pieces (λ id other is. g.between.among id (held_put m.store id is)) (all_true_front (is_held m.store) node.pieces all)) held) g.kept_first.stored.tables.pieces;
  outputs = λ job there compacted. all_to _ _ (concat job.outputs) (λ id one is. held_put r.store id is) (all_back _ (context_tables job.context) (concat job.outputs)
      (all_true_front (is_held r.store) (job_tables job) (all_at (λ (j : Job). IsTrue (is_active j) → JobTablesHeld r.store j) (stored_jobs r.store) job g.kept_second.stored.tables.jobs (stored job there) (active_if_compacted job compacted)).named));
  same = λ job there ends. let next = moves.there job there in
      ap (λ n. job_with n (stored_jobs h.store)) (ap (λ (j : Job). j.id) (sym (ends_stays job next.job ends next.moves))) ∙ found_job (stored_jobs h.store) next.job s.first.kept.stored.sound.job_ids next.there ∙ ap (λ (j : Job). Some j) (ends_stays job next.job ends next.moves);
  from = λ x there holds. holder x holds (moves.from x there);
  fresh = all_from _ drawn (λ q there. (unstored q there (job_with q.0 (stored_jobs h.store)) refl, (all_at (λ (p : ℕ × JobSpec). IsTrue (drew_job who.party h.store.history p.0)) drawn q fresh.drawn there, all_at (λ (p : ℕ × JobSpec). is_mentioned h.store.history p.0 ≡ false) drawn q fresh.fresh there)));
  new_ids = λ q job there one same. refused (was_named h.store.history q.0) (unnamed q there)
      (subst (λ n. IsTrue (was_named h.store.history n)) (sym same) (named_later r h job.id s.second.later (stored_named who.merge r job.id job g.kept_second (found_job (stored_jobs r.store) job g.kept_second.stored.sound.job_ids (stored job one)))));
  once = fresh.once;
  rise = rise;
  apart = λ x y one other differs. by x y (two_jobs HoldApart got.jobs x y held one other differs);
}
  where
    moves : Moves got.jobs (stored_jobs h.store)
    moves = subst (λ o. Moves (jobs_in o) (stored_jobs h.store)) g.is_got (s.second.quiet low).jobs

    rise : Pairs (λ a b. a.id < b.id) got.jobs
    rise = subst (λ o. Pairs (λ (a b : Job). a.id < b.id) (jobs_in o)) g.is_got g.kept_second.stored.sound.job_ids

    held : NodesHeldOnce got.jobs
    held = subst (λ o. NodesHeldOnce (jobs_in o)) g.is_got g.kept_second.stored.held_once

    stored : (job : Job) → IsIn job got.jobs → IsIn job (stored_jobs r.store)
    stored job there = subst (λ o. IsIn job (jobs_in o)) (sym g.is_got) there

    unnamed : (q : ℕ × JobSpec) → IsIn q drawn → was_named h.store.history q.0 ≡ false
    unnamed q there = not_named h.store.history q.0 (all_at (λ (p : ℕ × JobSpec). is_mentioned h.store.history p.0 ≡ false) drawn q fresh.fresh there) (was_named h.store.history q.0) refl

    unstored : (q : ℕ × JobSpec) → IsIn q drawn → (o : Option Job) → job_with q.0 (stored_jobs h.store) ≡ o → job_with q.0 (stored_jobs h.store) ≡ None
    unstored q there None f = f
    unstored q there (Some job) f = absurd (refused (was_named h.store.history q.0) (unnamed q there) (stored_named who.merge h q.0 job s.first.kept f))

    holder : (x : Job) → IsTrue (reserves_nodes x) → MovedJob got.jobs x ⊎ (IsSubmitted x × ((other : Job) → IsIn other got.jobs → other.id ≡ x.id → ⊥)) → Among (λ b. (b.spec ≡ x.spec) × IsTrue (reserves_nodes b)) got.jobs x.id
    holder x holds (inl f) = (f.job, (f.there, at f.moves))
      where
        at : JobMoves f.job x → (f.job.id ≡ x.id) × ((f.job.spec ≡ x.spec) × IsTrue (reserves_nodes f.job))
        at (Stays is) = (ap (λ (j : Job). j.id) (sym is), (ap (λ (j : Job). j.spec) (sym is), subst (λ (j : Job). IsTrue (reserves_nodes j)) is holds))
        at (Goes was goes id spec tables) = (sym id, (sym spec, open_reserves f.job.status was))
    holder x holds (inr new) = absurd (submitted_free x.status new.0 holds)

    by : (x y : Job) → HoldApart x y ⊎ HoldApart y x → HoldApart x y
    by x y (inl one) first second = one first second
    by x y (inr other) first second = apart_turned (nodes_of y.spec) (nodes_of x.spec) (other second first)
