use Rattle.std.proofs.Common.{◌≡◌, ◌∙◌, refl, ap, sym, rules}
use Rattle.fleet_lock.specs.Locks.{pass_of}
use Rattle.fleet_lock.specs.Passes.{PassValue}
use Rattle.party_tests.proofs.locks.put_through.Goals as goal

pub returns : goal.returns
returns g c =
    let back : c.put_many-struck.new.store.pass.now ≡ c.pass-2-1.given.0 = search rules in
    let same = c.put_many-struck.ensures in
    let kept = c.callers_keep_passes.ensures g.S.Holds.folds 0 (pass_of c.at-store.result) (pass_of c.put_many-struck.new.store) (record { who = same.who; lent = refl; place = same.place }) in
    ap (λ (pass : PassValue). pass.table) (sym back) ∙ (kept.table ∙ ap (λ (pass : PassValue). pass.table) c.at-store.ensures.same_pass)
