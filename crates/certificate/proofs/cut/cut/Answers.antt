-- The proof of certificate::cut::cut, by answers to its goals.
use Rattle.std.proofs.Common.{sym, ◌<◌, arith, length-take-le}
use Rattle.spec_trees.specs.ListLaws.{All-of}
use Rattle.certificate.specs.CutLaws.{answered_within, makes_runs, cut_same}
use Rattle.certificate.proofs.cut.cut.Goals as goal

pub slice_bounds-run-end-3 : goal.slice_bounds-run-end-3
slice_bounds-run-end-3 c = (omega (arith, c.length-n.ensures, answered_within c.run-a.ensures))

pub slice_bounds-run-end-4 : goal.slice_bounds-run-end-4
slice_bounds-run-end-4 c =
    sym (length-take-le c.length-n.result _ (omega (arith, c.length-n.ensures, answered_within c.run-a.ensures)))

pub returns : goal.returns
returns c =
    record {
      makes_runs = (makes_runs c.run-a.result c.run-b.result c.run-c.result c.run-a.ensures c.length-n.ensures
          c.run-b.ensures c.run-c.ensures);
      cut_same = cut_same (All-of (λ x. x < 256) 0 c.args.before.now (λ k l. omega
          (arith, c.type_inv.before k))) (All-of (λ x. x < 256) 0 c.args.input.now (λ k l. omega (arith, c.type_inv.input k)))
          (All-of (λ x. x < 256) 0 c.args.joined.now (λ k l. omega (arith, c.type_inv.joined k))) (makes_runs c.run-a.result
          c.run-b.result c.run-c.result c.run-a.ensures c.length-n.ensures c.run-b.ensures c.run-c.ensures);
    }
