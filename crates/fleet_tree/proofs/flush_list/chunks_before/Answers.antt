use Rattle.std.proofs.Common.{sym, ◌∙◌, not, true, false, arith}
use Rattle.std.specs.Prelude.{◌==◌}
use Rattle.std.proofs.lemmas.List.{append-nil}
use Rattle.fleet_tree.proofs.Chunks.{cut_by, joined, one_more}
use Rattle.fleet_tree.proofs.flush_list.chunks_before.Goals as goal

pub returns-then-is_cut-clause-chunks : goal.returns-then-is_cut-clause-chunks
returns-then-is_cut-clause-chunks c =
    let cuts = cut_by (λ view. not (view.id == c.args.id)) true c.chunk-item.result c.in_ok-part.part c.len.result c.len-in-chunks.result c.in_ok-part.ensures.part c.len.ensures c.len-in-chunks.ensures (λ e. c.if-is_cut.true) (λ e. absurd (cc e)) in
    sym (append-nil (joined c.push.new.self.items))
    ∙ one_more (λ view. not (view.id == c.args.id)) c.chunks.before.items c.push.new.self.items c.args.chunks.now c.chunks.chunk-index c.chunk-item.result c.in_ok-part.part true c.chunks-test.true c.chunk-item.is
    c.in_ok-part.ensures.part cuts c.in_ok-push.ensures.items c.chunks.invariant

pub chunks-preserved : goal.chunks-preserved
chunks-preserved c =
    let cuts = cut_by (λ view. not (view.id == c.args.id)) false c.chunk-item.result c.in_ok-part.part c.len.result c.len-in-chunks.result c.in_ok-part.ensures.part c.len.ensures c.len-in-chunks.ensures (λ e. absurd (cc e)) (λ e. omega (arith, c.if-is_cut.false)) in
    one_more (λ view. not (view.id == c.args.id)) c.chunks.before.items c.push.new.self.items c.args.chunks.now c.chunks.chunk-index c.chunk-item.result c.in_ok-part.part false c.chunks-test.true c.chunk-item.is
    c.in_ok-part.ensures.part cuts c.in_ok-push.ensures.items c.chunks.invariant
