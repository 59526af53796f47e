-- What a poll puts into the manifest is what its steps make.
use Rattle.std.proofs.Common.{sym, ap, subst, ℕ, List, [], ◌∷◌, ◌++◌, None, arith, append-nil, append_assoc}
use Rattle.std.specs.Prelude.{IsTrue}
use Rattle.fleet_model.specs.Jobs.{JobSpec}
use Rattle.fleet_model.specs.History.{GetRecords}
use Rattle.fleet_model.specs.Store.{Manifest, Records}
use Rattle.fleet_model.specs.Exchanges.{Plain, DrawsJob}
use Rattle.step_model.specs.Past.{World}
use Rattle.step_model.specs.Entries.{did_put_epoch}
use Rattle.step_model.specs.Rivals.{Caller, after_call}
use Rattle.step_model.specs.Steps.PollSteps.{PollAsk, input_of, records_or_none}
use Rattle.step_laws.specs.Runs.{CallsKeep}
use Rattle.rival_laws.proofs.Coordinators.{put_low}
use Rattle.course_laws.proofs.NewIds.{AreFresh, rivals_fresh, drawn_fresh}
use Rattle.commit_laws.proofs.AllCalls.{calls_keep}
use Rattle.coordinator_laws.specs.CommitPuts.{own_specs, Drew, IsMadeBySteps, PollsPutTheirSteps}
use Rattle.coordinator_laws.specs.PollReports.{state_reached}
use Rattle.coordinator_laws.proofs.Quiet.{HasEpoch, rivals_after}
use Rattle.coordinator_laws.proofs.Since.{Got, Ready, ready_met, ready_noted, drawn_noted}
use Rattle.coordinator_laws.proofs.Course.{FitsBy, commit_fits, got_both, kept_first, ready_both, since_first}

-- The facts since both gets hold after the draws, and the drawn ids are new.
record IsReadyWith (who : Caller) (e : ℕ) (m r : World) (drawn : List (ℕ × JobSpec)) (world : World) : Type 0 where
  ready : Ready who e m r world
  fresh : AreFresh who.party world drawn

-- After a poll's draws, what is so since both gets still holds, and the drawn ids are new.
drew_ready : (who : Caller) (e moment : ℕ) (m r : World) (before drawn : List (ℕ × JobSpec)) (old new : World) → CallsKeep who.merge
    → Ready who e m r old → AreFresh who.party old before → Drew who moment drawn old new → IsReadyWith who e m r (before ++ drawn) new
drew_ready who e moment m r before [] old new keep s fresh rivals = record {
  ready = ready_met who e m r old new keep s rivals;
  fresh = subst (AreFresh who.party new) (sym (append-nil before)) (rivals_fresh who before old new keep s.first.kept rivals fresh);
}
drew_ready who e moment m r before (d ∷ drawn) old new keep s fresh (met, (rivals, (room, (is, rest)))) =
    let there = ready_met who e m r old met keep s rivals in
    let still = rivals_fresh who before old met keep s.first.kept rivals fresh in
    let next = after_call who.line who.party (DrawsJob moment) None met in
    let more = subst (λ id. AreFresh who.party next (before ++ (id, d.1) ∷ [])) (sym is) (drawn_fresh who met moment d.1 before there.first.kept room still) in
    subst (λ all. IsReadyWith who e m r all new) (append_assoc before (d ∷ []) drawn)
    (drew_ready who e moment m r (before ++ d ∷ []) drawn next new keep (ready_noted who e m r met next there (drawn_noted who moment met keep there.first.kept room)) more rest)

-- A commit that fits puts what its steps make.
made_by : (who : Caller) (ask : PollAsk) (drawn : List (ℕ × JobSpec)) (m r at : World) (got : Records)
    → let p = state_reached ask (input_of ask r.store.tables m.store.manifest got) drawn in
    FitsBy who.party at (own_specs got.jobs drawn) p.steps (record m.store.manifest { trees = p.trees; horizon = p.horizon })
    → IsMadeBySteps who at (own_specs got.jobs drawn) p
made_by who ask drawn m r at got f = record {
  trees = ap (λ (v : Manifest). v.trees) f.makes;
  horizon = ap (λ (v : Manifest). v.horizon) f.makes;
  known = f.known;
}

-- What a poll reached is what its steps make over each store that still has the manifest that it got.
pub polls_put_their_steps : PollsPutTheirSteps
polls_put_their_steps who number ask local drawn old shown found at lawful by h version =
    let keep = calls_keep who.merge lawful in
    let own : HasEpoch who.party ask.epoch old = record { put = subst (λ party. IsTrue (did_put_epoch party old.store.history ask.epoch)) (sym by) h.holds.put; recorded = h.holds.recorded } in
    let there = rivals_after who ask.epoch old shown keep h.kept own h.met in
    let high = put_low shown.store.manifest.epoch shown.store.history ask.epoch who.party there.kept.facts.epochs there.own.put in
    let low = h.epoch in
    let since = since_first who ask.epoch shown found keep there.kept there.own h.met_next in
    let got : Got who ask.epoch shown found h.got = got_both who ask.epoch shown found h.got there.kept (omega (arith, low, high)) since h.is_got h.got_epoch in
    let drew = drew_ready who ask.epoch ask.moment shown found [] drawn (after_call who.line who.party (Plain GetRecords) None found) at keep
    (ready_both who ask.epoch shown found keep since (kept_first who shown found keep there.kept h.met_next))
    (record { drawn = tt; fresh = tt; once = tt }) h.drew in
    subst (λ records. IsMadeBySteps who at (own_specs h.got.jobs drawn) (state_reached ask (input_of ask found.store.tables shown.store.manifest (records_or_none records)) drawn)) (sym h.is_got)
    (made_by who ask drawn shown found at h.got (commit_fits who ask.epoch shown found at h.got ask drawn lawful got drew.ready drew.fresh version))
