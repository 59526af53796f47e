-- Lawful calls lead from a fresh store to the store in the midst of two jobs.
use Rattle.std.proofs.Common.{◌≡◌, refl, sym, ap, subst, ℕ, List, [], ◌∷◌, ◌++◌, lit≤, inl, inr, Some, None}
use Rattle.std.specs.Prelude.{take}
use Rattle.row_model.specs.Fold.{Operator}
use Rattle.row_model.specs.Written.Plan.{planned_ranges}
use Rattle.fleet_model.specs.Jobs.{JobSpec, Jobs, Running}
use Rattle.fleet_model.specs.History.{Party, Submitter}
use Rattle.fleet_model.specs.Trees.{tables_now}
use Rattle.fleet_model.specs.Work.Attempts.{claim_settings}
use Rattle.fleet_model.specs.Work.Records.{Unrecorded, no_contexts}
use Rattle.fleet_model.specs.Invariants.AttemptsFit.{ContextFits}
use Rattle.fleet_model.specs.Invariants.JobsFit.{OutputsFit}
use Rattle.fleet_model.specs.Store.{Manifest}
use Rattle.step_model.specs.Past.{World, fresh_world}
use Rattle.step_model.specs.Kept.Faithful.{Faithful, with_specs}
use Rattle.step_model.specs.LawfulRecords.{NamesFit}
use Rattle.step_model.specs.Rivals.{Caller, RivalCall, RivalsFrom, after_rival}
use Rattle.step_laws.specs.Midway.{row, prefix, tables, spec, spec_of, context, compacted_job, claimed_manifest, past, history, midway_world}
use Rattle.step_laws.specs.MidwayCalls.{lease, opened_jobs, taken_jobs_now, beaten_jobs, retaken_jobs, first_calls, opening_calls, claim_calls, beat_calls, takeover_calls, last_calls, sweeper, one_job, MidwayIsReached}
use Rattle.step_laws.proofs.Midway.{parts_are_past}
use Rattle.step_laws.proofs.MidwayStored.{differ, sound}

-- The world after so many entries, with so many of the past manifests and of the tables.
abbrev scene : (entries manifests put jobs_drawn tables_drawn : ℕ) → Manifest → (version : ℕ) → Jobs → World
scene entries manifests put jobs_drawn tables_drawn manifest version stored = record {
  store = record {
    manifest = manifest;
    records = Some (record { version = version; epoch = 1; jobs = stored });
    tables = take put tables;
    deleted = [];
    jobs_drawn = jobs_drawn;
    tables_drawn = tables_drawn;
    history = take entries history;
  };
  past = take manifests past;
}

-- Calls that lead on from where others led lead there together.
then_calls : (who : Caller) (calls others : List RivalCall) (old met new : World) → RivalsFrom who calls old met → RivalsFrom who others met new → RivalsFrom who (calls ++ others) old new
then_calls who [] others old met new first rest = subst (λ world. RivalsFrom who others world new) (sym first) rest
then_calls who (call ∷ calls) others old met new first rest = (first.0, then_calls who calls others (after_rival call old) met new first.1 rest)

-- What a put depends on and the history does not record: the moment, the published context, and the
-- kept cut.
abbrev at_moment : ℕ → Unrecorded
at_moment moment = record { moment = moment; published = no_contexts; kept_cut = None; tables_of = tables_now claimed_manifest.trees }

-- A put that names no job is fit to name jobs.
pub unnamed : (party : Party) (world : World) → NamesFit party world []
unnamed party world = record { once = tt; drawn = tt; replays = λ specs given. given }

-- The world before and after some calls.
abbrev drawn_world : World
drawn_world = scene 8 4 2 2 0 claimed_manifest 1 []

abbrev opened_world : World
opened_world = scene 10 4 2 2 0 claimed_manifest 3 opened_jobs

abbrev claimed_world : World
claimed_world = scene 15 4 3 2 1 claimed_manifest 4 taken_jobs_now

abbrev beaten_world : World
beaten_world = scene 16 4 3 2 1 claimed_manifest 5 beaten_jobs

abbrev retaken_world : World
retaken_world = scene 24 4 4 2 2 claimed_manifest 8 retaken_jobs

-- ---- the first calls

-- Lawful calls lead from a fresh store to one with two flushes and two ids that were drawn for jobs.
first : (merge : Operator) → RivalsFrom (sweeper merge) first_calls fresh_world drawn_world
first merge = (
  record { other = λ same. absurd (cc same); lawful = λ same. record { number = 1; by = refl; above = lit≤ tt; makes = refl }; strike = tt; deletes_none = refl },
  (
    record {
      other = λ same. absurd (cc same);
      lawful = (unnamed _ _, λ same. record { there = refl; unrecorded = at_moment 0; makes_jobs = refl; makes_epoch = refl; fits = record { by = refl; above = lit≤ tt } });
      strike = tt;
      deletes_none = refl;
    },
    (
      record { other = λ same. absurd (cc same); lawful = record { sound = sound.tables.0; new = refl; named = inr (refl, lit≤ tt, lit≤ tt) }; strike = tt; deletes_none = refl },
      (
        record {
          other = λ same. absurd (cc same);
          lawful = λ same. record { by = refl; held = refl; is_name = lit≤ tt; once = refl; newer = (tt, (tt, tt)); floor_stays = lit≤ tt; tick_stays = refl; moment = 0; retention = 0; makes = refl };
          strike = tt;
          deletes_none = refl;
        },
        (
          record { other = λ same. absurd (cc same); lawful = record { sound = sound.tables.1.0; new = refl; named = inr (refl, lit≤ tt, lit≤ tt) }; strike = tt; deletes_none = refl },
          (
            record {
              other = λ same. absurd (cc same);
              lawful = λ same. record { by = refl; held = refl; is_name = lit≤ tt; once = refl; newer = (tt, (tt, tt)); floor_stays = lit≤ tt; tick_stays = refl; moment = 0; retention = 0; makes = refl };
              strike = tt;
              deletes_none = refl;
            },
            (
              record { other = λ same. absurd (cc same); lawful = lit≤ tt; strike = tt; deletes_none = refl },
              (record { other = λ same. absurd (cc same); lawful = lit≤ tt; strike = tt; deletes_none = refl }, refl),
            ),
          ),
        ),
      ),
    ),
  ),
)

-- ---- both jobs are submitted and opened

abbrev named : List (ℕ × JobSpec)
named = (1, spec prefix 1 0) ∷ (2, spec [] 2 1) ∷ []

-- No commit came so far, so any specs give the same replay.
free_specs : (specs : ℕ → JobSpec) → Faithful drawn_world specs
free_specs specs = record { agrees = (tt, (tt, (tt, (tt, (tt, (tt, (tt, (tt, tt)))))))); manifests = parts_are_past drawn_world specs (refl, (refl, (refl, (refl, (refl, (refl, (refl, (refl, refl)))))))) }

names_fit : NamesFit Submitter drawn_world named
names_fit = record { once = ((differ 1 2 refl, tt), (tt, tt)); drawn = (refl, (refl, tt)); replays = λ specs given. free_specs (with_specs named specs) }

-- A submitter submits the jobs, and a poll opens them.
opening : (merge : Operator) → RivalsFrom (sweeper merge) opening_calls drawn_world opened_world
opening merge = (
  record {
    other = λ same. absurd (cc same);
    lawful = (names_fit, λ same. record { there = refl; unrecorded = at_moment 0; makes_jobs = refl; makes_epoch = refl; fits = record { by = refl; new = (refl, (refl, tt)) } });
    strike = tt;
    deletes_none = refl;
  },
  (
    record {
      other = λ same. absurd (cc same);
      lawful = (
        unnamed _ _,
        λ same. record {
          there = refl;
          unrecorded = at_moment 0;
          makes_jobs = refl;
          makes_epoch = refl;
          fits = record {
            by = refl;
            new = tt;
            freed = tt;
            opened = ((refl, refl), ((refl, refl), tt));
            ended = tt;
            stand = (
              λ opens. record { some = refl; stretch = refl; source_tables = refl; destination = (refl, λ none. refl) },
              (λ opens. record { some = refl; stretch = refl; source_tables = refl; destination = (refl, λ none. refl) }, tt),
            );
            apart = ((λ one_job other. refl, tt), (tt, tt));
          };
        },
      );
      strike = tt;
      deletes_none = refl;
    },
    refl,
  ),
)

-- ---- worker 1 takes job 1 and puts a table

-- Lawful calls lead from the store with both jobs open to that where worker 1 has taken job 1 and put a table.
claim : (merge : Operator) → RivalsFrom (sweeper merge) claim_calls opened_world claimed_world
claim merge = (
  record {
    other = λ same. absurd (cc same);
    lawful = (
      unnamed _ _,
      λ same. record { there = refl; unrecorded = at_moment 500; makes_jobs = refl; makes_epoch = refl; fits = record { by = refl; once = (tt, tt); each = ((refl, refl), tt) } },
    );
    strike = tt;
    deletes_none = refl;
  },
  (
    record { other = λ same. absurd (cc same); lawful = tt; strike = tt; deletes_none = refl },
    (
      record { other = λ same. absurd (cc same); lawful = record { worker = 1; by = refl; claimed = refl }; strike = tt; deletes_none = refl },
      (
        record { other = λ same. absurd (cc same); lawful = lit≤ tt; strike = tt; deletes_none = refl },
        (record { other = λ same. absurd (cc same); lawful = record { sound = sound.tables.1.1.0; new = refl; named = inl refl }; strike = tt; deletes_none = refl }, refl),
      ),
    ),
  ),
)

-- ---- worker 1 publishes its table

-- Every faithful replay has the spec of job 1, since the submission names it.
one_spec : (specs : ℕ → JobSpec) → Faithful claimed_world specs → specs 1 ≡ spec prefix 1 0
one_spec specs given = given.agrees.1.1.1.1.1.1.1.1.0.0

-- The context that worker 1 publishes fits job 1.
fits : (merge : Operator) (specs : ℕ → JobSpec) → Faithful claimed_world specs → ContextFits merge claimed_world.store specs (one_job Running (lease 1 500) 1 None) context
unfolding planned_ranges
fits merge specs given = record {
  claimed = record { settings = ap (λ s. Some (claim_settings claimed_manifest 0 s)) (one_spec specs given); ranges = refl };
  settings = record { floor = lit≤ tt; cut = lit≤ tt; tick = refl; last_run = λ last. refl };
  cut = λ none. absurd (cc none);
  ranges = (4, refl);
  tables = ((row (0x62 ∷ 0x32 ∷ []) 2 ∷ [], refl), tt);
}

-- A lawful heartbeat of worker 1 leads to the store where its table is published for job 1.
beat : (merge : Operator) → RivalsFrom (sweeper merge) beat_calls claimed_world beaten_world
beat merge = (
  record {
    other = λ same. absurd (cc same);
    lawful = (
      unnamed _ _,
      λ same. record {
        there = refl;
        unrecorded = record (at_moment 600) { published = λ id. Some context };
        makes_jobs = refl;
        makes_epoch = refl;
        fits = record {
          by = refl;
          each = ((refl, record { fits = fits merge; extends = tt; held = refl; own = (inr (record { drawn = refl; put = refl; unused = refl; unnamed = refl }), tt) }), tt);
          apart = (tt, tt);
        };
      },
    );
    strike = tt;
    deletes_none = refl;
  },
  refl,
)

-- ---- worker 2 takes both jobs

-- Lawful calls lead from the store with the published table to that where worker 2 has both jobs and put a table.
takeover : (merge : Operator) → RivalsFrom (sweeper merge) takeover_calls beaten_world retaken_world
takeover merge = (
  record {
    other = λ same. absurd (cc same);
    lawful = (
      unnamed _ _,
      λ same. record { there = refl; unrecorded = at_moment 700; makes_jobs = refl; makes_epoch = refl; fits = record { by = refl; once = (tt, tt); each = ((refl, refl), tt) } },
    );
    strike = tt;
    deletes_none = refl;
  },
  (
    record { other = λ same. absurd (cc same); lawful = tt; strike = tt; deletes_none = refl },
    (
      record { other = λ same. absurd (cc same); lawful = record { worker = 2; by = refl; claimed = refl }; strike = tt; deletes_none = refl },
      (
        record {
          other = λ same. absurd (cc same);
          lawful = (
            unnamed _ _,
            λ same. record {
              there = refl;
              unrecorded = at_moment 800;
              makes_jobs = refl;
              makes_epoch = refl;
              fits = record {
                by = refl;
                new = tt;
                freed = (refl, tt);
                opened = tt;
                ended = tt;
                stand = (λ opens. absurd (cc opens), (λ opens. absurd (cc opens), tt));
                apart = ((λ one_job other. refl, tt), (tt, tt));
              };
            },
          );
          strike = tt;
          deletes_none = refl;
        },
        (
          record {
            other = λ same. absurd (cc same);
            lawful = (
              unnamed _ _,
              λ same. record { there = refl; unrecorded = at_moment 900; makes_jobs = refl; makes_epoch = refl; fits = record { by = refl; once = (tt, tt); each = ((refl, refl), tt) } },
            );
            strike = tt;
            deletes_none = refl;
          },
          (
            record { other = λ same. absurd (cc same); lawful = tt; strike = tt; deletes_none = refl },
            (
              record { other = λ same. absurd (cc same); lawful = lit≤ tt; strike = tt; deletes_none = refl },
              (record { other = λ same. absurd (cc same); lawful = record { sound = sound.tables.1.1.1.0; new = refl; named = inl refl }; strike = tt; deletes_none = refl }, refl),
            ),
          ),
        ),
      ),
    ),
  ),
)

-- ---- worker 2 finishes job 2, and its run is joined

-- Every faithful replay has the spec of job 2.
two_spec : (specs : ℕ → JobSpec) → Faithful retaken_world specs → specs 2 ≡ spec [] 2 1
two_spec specs given = given.agrees.1.1.1.1.1.1.1.1.0.1.0

-- The outputs of worker 2 fit job 2.
outputs : (merge : Operator) (specs : ℕ → JobSpec) → Faithful retaken_world specs → OutputsFit merge retaken_world.store specs compacted_job
outputs merge specs given = record {
  settings = context.settings;
  claimed = ap (λ s. Some (claim_settings claimed_manifest 0 s)) (two_spec specs given);
  cut = refl;
  at_most_floor = lit≤ tt;
  fit = inr (record { floor = lit≤ tt; cut = lit≤ tt; tick = refl; last_run = λ last. refl });
  rows = λ held. refl;
}

-- Lawful calls lead from the store where worker 2 has both jobs to that where job 2 is finished and its run joined.
last : (merge : Operator) → RivalsFrom (sweeper merge) last_calls retaken_world midway_world
last merge = (
  record {
    other = λ same. absurd (cc same);
    lawful = (
      unnamed _ _,
      λ same. record {
        there = refl;
        unrecorded = record (at_moment 950) { kept_cut = Some 4 };
        makes_jobs = refl;
        makes_epoch = refl;
        fits = record {
          by = refl;
          finishes = record { live = refl; fits = outputs merge; held = refl; own = (inr (record { drawn = refl; put = refl; unused = refl; unnamed = refl }), tt) };
        };
      },
    );
    strike = tt;
    deletes_none = refl;
  },
  (
    record { other = λ same. absurd (cc same); lawful = record { sound = sound.tables.1.1.1.1.0; new = refl; named = inr (refl, lit≤ tt, lit≤ tt) }; strike = tt; deletes_none = refl },
    (
      record {
        other = λ same. absurd (cc same);
        lawful = λ same. record { by = refl; held = refl; is_name = lit≤ tt; once = refl; newer = (lit≤ tt, tt); floor_stays = lit≤ tt; tick_stays = refl; moment = 0; retention = 0; makes = refl };
        strike = tt;
        deletes_none = refl;
      },
      (
        record {
          other = λ same. absurd (cc same);
          lawful = λ same. record {
            by = (refl, refl);
            specs = spec_of;
            known = (refl, tt);
            each = (record { job = compacted_job; stored = refl; finished = refl; gate = refl; once = refl; again = λ was. absurd (cc was) }, tt);
            makes = refl;
          };
          strike = tt;
          deletes_none = refl;
        },
        (
          record {
            other = λ same. absurd (cc same);
            lawful = (
              unnamed _ _,
              λ same. record {
                there = refl;
                unrecorded = at_moment 1000;
                makes_jobs = refl;
                makes_epoch = refl;
                fits = record {
                  by = refl;
                  new = tt;
                  freed = tt;
                  opened = tt;
                  ended = (refl, tt);
                  stand = (λ opens. absurd (cc opens), (λ opens. absurd (cc opens), tt));
                  apart = ((λ one_job other. refl, tt), (tt, tt));
                };
              },
            );
            strike = refl;
            deletes_none = refl;
          },
          refl,
        ),
      ),
    ),
  ),
)

-- ---- all calls

pub reached : (merge : Operator) → MidwayIsReached merge
reached merge =
    let who = sweeper merge in
    then_calls who first_calls (opening_calls ++ claim_calls ++ beat_calls ++ takeover_calls ++ last_calls) fresh_world drawn_world midway_world (first merge)
    (then_calls who opening_calls (claim_calls ++ beat_calls ++ takeover_calls ++ last_calls) drawn_world opened_world midway_world (opening merge)
    (then_calls who claim_calls (beat_calls ++ takeover_calls ++ last_calls) opened_world claimed_world midway_world (claim merge)
    (then_calls who beat_calls (takeover_calls ++ last_calls) claimed_world beaten_world midway_world (beat merge)
    (then_calls who takeover_calls last_calls beaten_world retaken_world midway_world (takeover merge) (last merge)))))
