-- The proof of place::place::wrap, by answers to its goals.
use Rattle.std.proofs.Common.{arith, sym, ◌∙◌}
use Rattle.place.specs.PlaceLaws.{headed_under, behind_entry, large_entry}
use Rattle.place.proofs.place.wrap.Goals as goal
use Rattle.areas.specs.AreaLaws.{handed_on}

pub entry-requires : goal.entry-requires
entry-requires c = (behind_entry c.args.work.now c.args.at c.args.label c.requires.0, c.requires.1, c.requires.3)

pub returns-in_err-e : goal.returns-in_err-e
returns-in_err-e c =
    rw (handed_on _ c.from_residual.result c.from_residual.ensures.1) (large_entry c.args.label c.entry.ensures c.in_err-e.was)

pub put_head-requires-2 : goal.put_head-requires-2
put_head-requires-2 c =
    omega (
      arith,
      (c.requires.0 c.in_ok-e.e (sym c.entry.ensures.same ∙ c.in_ok-e.was)),
      c.entry.auto.work,
      c.put_head.auto.work,
    )

pub returns : goal.returns
returns c =
    headed_under c.args.label (c.requires.0 c.in_ok-e.e (sym c.entry.ensures.same ∙ c.in_ok-e.was)).0 (omega (
      arith,
      (c.requires.0 c.in_ok-e.e (sym c.entry.ensures.same ∙ c.in_ok-e.was)),
      c.entry.auto.work,
      c.put_head.auto.work,
    )) c.in_ok-e.was c.entry.ensures c.put_head.ensures c.put_head-2.ensures
