-- A coordinator fits after its start and after its polls.
use Rattle.std.proofs.Common.{◌≡◌, refl, sym, subst, ℕ, zero, suc, ◌+◌, ◌<◌, cond, Bool, true, false, inl, inr, Option, Some, None, arith}
use Rattle.std.specs.Prelude.{IsTrue, ◌==◌, nat_lt}
use Rattle.fleet_model.specs.Jobs.{Jobs, trimmed_jobs}
use Rattle.fleet_model.specs.History.{Party, Coordinator, GetManifest, GetRecords, ManifestEpoch, RecordsEpoch}
use Rattle.fleet_model.specs.Store.{Manifest, Records, jobs_in, records_epoch}
use Rattle.fleet_model.specs.Exchanges.{Exchange, Plain, PutsManifest, PutsRecords, records_version}
use Rattle.step_model.specs.Past.{World}
use Rattle.step_model.specs.Entries.{did_put_epoch, is_epoch_put}
use Rattle.step_model.specs.Lawful.{Lawful}
use Rattle.step_model.specs.Rivals.{Caller, after_call}
use Rattle.step_model.specs.Kept.Keeps.{Keeps}
use Rattle.step_model.specs.Fits.{CoordinatorHolds}
use Rattle.step_model.specs.Courses.Course.{Course, Ends, Calls}
use Rattle.step_model.specs.Courses.Tries.{tries}
use Rattle.step_model.specs.Courses.CourseRuns.{End, Gives, MeetsFault, LacksMemory, HasRoom, StopsAt, Runs, IsLawfulCourse}
use Rattle.step_model.specs.Courses.StepEnds.{StepEnd, Reports, GivesUp, Fenced, most_refused}
use Rattle.step_model.specs.Steps.PollSteps.{start, start_try, epoch_above, holds_at_start, unless_fenced}
use Rattle.step_model.specs.Steps.PollSteps as step
use Rattle.step_laws.specs.Runs.{CallsKeep}
use Rattle.step_laws.proofs.Runs.{rivals_keep, struck_has_room}
use Rattle.course_laws.proofs.Calls.{keeps_after}
use Rattle.course_laws.proofs.Later.{rivals_later, later_by}
use Rattle.course_laws.proofs.Puts.{did_later}
use Rattle.course_laws.proofs.Starts.{starts, put_stood}
use Rattle.commit_laws.proofs.AllCalls.{calls_keep}
use Rattle.coordinator_laws.specs.Coordinators.{StartsFit, PollsFit}
use Rattle.coordinator_laws.proofs.Quiet.{HasEpoch, epoch_call, rivals_after}
use Rattle.coordinator_laws.proofs.Course.{polls_are_lawful}

-- ---- runs keep the epoch

stop_epoch : {A : Type 0} (who : Caller) (e : ℕ) (x : Exchange) (met new : World) (end : End A) → (HasRoom met x → Lawful who.merge who.party met x) → HasEpoch who.party e met → StopsAt who x met new end → HasEpoch who.party e new
stop_epoch who e x met new (Gives answer) lawful own stops = absurd stops
stop_epoch who e x met new MeetsFault lawful own stops =
    subst (HasEpoch who.party e) (sym stops.1.1) (epoch_call who e who.line who.party x (Some stops.1.0) met (lawful (struck_has_room x met stops.0)) stops.0 own).0
stop_epoch who e x met new LacksMemory lawful own stops = subst (HasEpoch who.party e) stops own

-- A run of a lawful course keeps what the coordinator put.
pub runs_epoch : {A : Type 0} (who : Caller) (e : ℕ) (course : Course A) → CallsKeep who.merge → (old new : World) (end : End A) → Keeps who.merge old → HasEpoch who.party e old → IsLawfulCourse who old course → Runs who course old new end → HasEpoch who.party e new
runs_epoch who e (Ends answer) keep old new end kept own lawful run = subst (HasEpoch who.party e) run.0 own
runs_epoch who e (Calls x next) keep old new end kept own lawful (met, (rivals, inl stops)) =
    stop_epoch who e x met new end (λ room. (lawful met rivals room).0) (rivals_after who e old met keep kept own rivals).own stops
runs_epoch who e (Calls x next) keep old new end kept own lawful (met, (rivals, inr (room, run))) =
    let a = rivals_after who e old met keep kept own rivals in
    let one = lawful met rivals room in
    runs_epoch who e (next met.store) keep _ new end (keeps_after who x met keep a.kept one.0) (epoch_call who e who.line who.party x None met one.0 tt a.own).0 one.1 run

-- What a coordinator without a local state holds.
pub holds_none : (who : Caller) (world : World) (number e : ℕ) → who.party ≡ Coordinator number → 0 < e → HasEpoch who.party e world → CoordinatorHolds world (record { number = number; epoch = e }) None
holds_none who world number e by counted own = record {
  counted = counted;
  put = subst (λ party. IsTrue (did_put_epoch party world.store.history e)) by own.put;
  recorded = own.recorded;
  merges = λ manifest records. tt;
  known = λ manifest records. tt;
}

pub polls_fit : PollsFit
polls_fit who old new number ask local end lawful by kept holds run =
    holds_none who new number ask.epoch by holds.counted
    (runs_epoch who ask.epoch _ (calls_keep who.merge lawful) old new end kept (record { put = subst (λ party. IsTrue (did_put_epoch party old.store.history ask.epoch)) (sym by) holds.put; recorded = holds.recorded })
    (polls_are_lawful who old number ask local lawful by kept holds) run)

-- ---- starts

-- The records after a put of an epoch that stood.
epoch_stood : (line : ℕ) (party : Party) (world : World) (version epoch : ℕ) (jobs : Jobs) → (version == records_version world.store.records) ≡ true
    → records_epoch (after_call line party (PutsRecords version (RecordsEpoch epoch) epoch jobs) None world).store.records ≡ epoch
epoch_stood line party world version epoch jobs e = by (version == records_version world.store.records) e
  where
    by : (b : Bool) → b ≡ true → records_epoch (cond b (record world.store { records = Some (record { version = version + 1; epoch = epoch; jobs = jobs }) }) world.store).records ≡ epoch
    by true e = refl
    by false e = absurd (cc e)

-- The end of a start: it reports the epoch that it put.
ends_with : (who : Caller) (e stored epoch : ℕ) (old new : World) → HasEpoch who.party e old → 0 < e → Runs who (unless_fenced e stored (Ends (Reports e))) old new (Gives (Reports epoch)) → HasEpoch who.party epoch new × (0 < epoch)
ends_with who e stored epoch old new own counted run = by (nat_lt e stored) run
  where
    never : ◌≡◌ {A = StepEnd ℕ} (Fenced stored) (Reports epoch) → ⊥
    never f = absurd (cc f)

    same : ◌≡◌ {A = StepEnd ℕ} (Reports e) (Reports epoch) → e ≡ epoch
    same f = cc f

    by : (b : Bool) → Runs who (cond b (Ends (Fenced stored)) (Ends (Reports e))) old new (Gives (Reports epoch)) → HasEpoch who.party epoch new × (0 < epoch)
    by true run = absurd (never run.1)
    by false run = (subst (λ n. HasEpoch who.party n new) (same run.1) (subst (HasEpoch who.party e) run.0 own), subst (λ n. 0 < n) (same run.1) counted)

holds_run : (who : Caller) (e epoch : ℕ) (old new : World) → CallsKeep who.merge → Keeps who.merge old → HasEpoch who.party e old → 0 < e → Runs who (holds_at_start e) old new (Gives (Reports epoch)) → HasEpoch who.party epoch new × (0 < epoch)
holds_run who e epoch old new keep kept own counted (m, (before, inl stops)) = absurd stops
holds_run who e epoch old new keep kept own counted (m, (before, inr (room, (r, (between, inl stops))))) = absurd stops
holds_run who e epoch old new keep kept own counted (m, (before, inr (room, (r, (between, inr (more, run)))))) =
    let a = rivals_after who e old m keep kept own before in
    let first = after_call who.line who.party (Plain GetManifest) None m in
    let kept_first = keeps_after who (Plain GetManifest) m keep a.kept tt in
    let b = rivals_after who e first r keep kept_first (epoch_call who e who.line who.party (Plain GetManifest) None m tt tt a.own).0 between in
    ends_with who e _ epoch (after_call who.line who.party (Plain GetRecords) None r) new (epoch_call who e who.line who.party (Plain GetRecords) None r tt tt b.own).0 counted run

-- The run after a put of the records.
after_records : (who : Caller) (number e epoch left : ℕ) (records : Option Records) (q new : World) → CallsKeep who.merge → who.party ≡ Coordinator number → Keeps who.merge q → IsTrue (did_put_epoch who.party q.store.history e) → 0 < e
    → ((world : World) → Keeps who.merge world → Runs who (tries start_try left (records_version q.store.records)) world new (Gives (Reports epoch)) → HasEpoch who.party epoch new × (0 < epoch))
    → Lawful who.merge who.party q (PutsRecords (records_version records) (RecordsEpoch e) e (trimmed_jobs (jobs_in records))) → (b : Bool) → (records_version records == records_version q.store.records) ≡ b
    → Runs who (cond b (holds_at_start e) (tries start_try left (records_version q.store.records))) (after_call who.line who.party (PutsRecords (records_version records) (RecordsEpoch e) e (trimmed_jobs (jobs_in records))) None q) new (Gives (Reports epoch))
    → HasEpoch who.party epoch new × (0 < epoch)
after_records who number e epoch left records q new keep by kept put counted again lawful true equal run =
    let x = PutsRecords (records_version records) (RecordsEpoch e) e (trimmed_jobs (jobs_in records)) in
    let stored = epoch_stood who.line who.party q (records_version records) e (trimmed_jobs (jobs_in records)) equal in
    holds_run who e epoch (after_call who.line who.party x None q) new keep (keeps_after who x q keep kept lawful)
    (record { put = did_later (is_epoch_put e) who.party q (after_call who.line who.party x None q) (later_by who.line who.party x None q) put; recorded = omega (arith, stored) }) counted run
after_records who number e epoch left records q new keep by kept put counted again lawful false other run =
    again (after_call who.line who.party (PutsRecords (records_version records) (RecordsEpoch e) e (trimmed_jobs (jobs_in records))) None q) (keeps_after who (PutsRecords (records_version records) (RecordsEpoch e) e (trimmed_jobs (jobs_in records))) q keep kept lawful) run

-- The run after a put of the manifest.
after_manifest : (who : Caller) (number epoch left : ℕ) (m r p new : World) → CallsKeep who.merge → who.party ≡ Coordinator number → Keeps who.merge p
    → ((seen : ℕ) (world : World) → Keeps who.merge world → Runs who (tries start_try left seen) world new (Gives (Reports epoch)) → HasEpoch who.party epoch new × (0 < epoch))
    → let e = epoch_above m.store.manifest r.store.records in
    let x = PutsManifest m.store.manifest.version (ManifestEpoch e) (record m.store.manifest { epoch = e }) in
    Lawful who.merge who.party p x → (b : Bool) → (m.store.manifest.version == p.store.manifest.version) ≡ b
    → IsLawfulCourse who (after_call who.line who.party x None p) (cond b (step.puts_epoch r.store.records e (holds_at_start e) (tries start_try left)) (tries start_try left p.store.manifest.version))
    → Runs who (cond b (step.puts_epoch r.store.records e (holds_at_start e) (tries start_try left)) (tries start_try left p.store.manifest.version)) (after_call who.line who.party x None p) new (Gives (Reports epoch)) → HasEpoch who.party epoch new × (0 < epoch)
after_manifest who number epoch left m r p new keep by kept again lawful true equal further (q, (rivals, inl stops)) = absurd stops
after_manifest who number epoch left m r p new keep by kept again lawful true equal further (q, (rivals, inr (room, run))) =
    let e = epoch_above m.store.manifest r.store.records in
    let value : Manifest = record m.store.manifest { epoch = e } in
    let x = PutsManifest m.store.manifest.version (ManifestEpoch e) value in
    let after = after_call who.line who.party x None p in
    let put = did_later (is_epoch_put e) who.party after q (rivals_later who after q rivals) (put_stood who p m.store.manifest.version e value equal) in
    after_records who number e epoch left r.store.records q new keep by (rivals_keep who after q keep (keeps_after who x p keep kept lawful) rivals) put (omega (arith)) (λ world kept run. again (records_version q.store.records) world kept run)
    (further q rivals room).0 (records_version r.store.records == records_version q.store.records) refl run
after_manifest who number epoch left m r p new keep by kept again lawful false other further run =
    let e = epoch_above m.store.manifest r.store.records in
    again p.store.manifest.version _ (keeps_after who (PutsManifest m.store.manifest.version (ManifestEpoch e) (record m.store.manifest { epoch = e })) p keep kept lawful) run

-- A start that reports has put the epoch that it reports, which is above 0, and the records have it or a later one.
start_runs : (who : Caller) (number epoch : ℕ) (new : World) → CallsKeep who.merge → who.party ≡ Coordinator number → (left seen : ℕ) (old : World) → Keeps who.merge old → Runs who (tries start_try left seen) old new (Gives (Reports epoch)) → HasEpoch who.party epoch new × (0 < epoch)
start_runs who number epoch new keep by zero seen old kept run = absurd (never run.1)
  where
    never : ◌≡◌ {A = StepEnd ℕ} (GivesUp seen) (Reports epoch) → ⊥
    never f = absurd (cc f)
start_runs who number epoch new keep by (suc left) seen old kept (m, (before, inl stops)) = absurd stops
start_runs who number epoch new keep by (suc left) seen old kept (m, (before, inr (room, (r, (between, inl stops))))) = absurd stops
start_runs who number epoch new keep by (suc left) seen old kept (m, (before, inr (room, (r, (between, inr (more, (p, (later, inl stops)))))))) = absurd stops
start_runs who number epoch new keep by (suc left) seen old kept (m, (before, inr (room, (r, (between, inr (more, (p, (later, inr (last, run))))))))) =
    let first = after_call who.line who.party (Plain GetManifest) None m in
    let second = after_call who.line who.party (Plain GetRecords) None r in
    let kept_m = rivals_keep who old m keep kept before in
    let kept_r = rivals_keep who first r keep (keeps_after who (Plain GetManifest) m keep kept_m tt) between in
    let kept_p = rivals_keep who second p keep (keeps_after who (Plain GetRecords) r keep kept_r tt) later in
    let lawful = ((starts who number by (suc left) seen old m before room).1 r between more).1 p later last in
    after_manifest who number epoch left m r p new keep by kept_p (λ seen world there further. start_runs who number epoch new keep by left seen world there further) lawful.0 (m.store.manifest.version == p.store.manifest.version) refl lawful.1 run

pub starts_fit : StartsFit
unfolding start
starts_fit who old new number epoch lawful by kept run =
    let started = start_runs who number epoch new (calls_keep who.merge lawful) by most_refused 0 old kept run in
    holds_none who new number epoch by started.1 started.0
