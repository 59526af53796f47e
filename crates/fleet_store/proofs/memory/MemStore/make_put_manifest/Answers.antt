use Rattle.std.proofs.Common.{◌≡◌, ◌+◌, ap, sym, ◌∙◌, subst, if◌then◌else◌}
use Rattle.fleet_history.specs.Changes.{manifest_change_of}
use Rattle.fleet_store.specs.Memory.{StoreParts}
use Rattle.fleet_store.specs.Manifests.{HasTrees, jobs_shown}
use Rattle.fleet_store.proofs.Kept.{manifest_kept}
use Rattle.fleet_store.proofs.memory.MemStore.make_put_manifest.Goals as goal

pub invariant_of-self-2 : goal.invariant_of-self-2
invariant_of-self-2 c =
    manifest_kept c.self.inside.log c.add_manifest.new.self c.args.version c.args.value c.args.why (jobs_shown c.args.jobs) _ c.self.inside.manifest _ _ _ _ c.replace_manifest.new.manifest c.in_ok-strike.ensures.ok
    (subst (λ (p : StoreParts). c.args.version ≡ p.world.store.manifest.version → HasTrees c.args.value (jobs_shown c.args.jobs) (manifest_change_of c.args.why) p.world.store) (sym c.self.view_is) c.requires)
    (c.replace_manifest.ensures ∙ ap (λ b. if b then record { id = c.self.inside.manifest.id + 1; manifest = c.args.value } else c.self.inside.manifest) c.replaces-stands.ensures) c.self.invariant
