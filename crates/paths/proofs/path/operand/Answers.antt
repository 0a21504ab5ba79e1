-- The proof of paths::path::operand, by answers to its goals.
use Rattle.std.proofs.Common.{arith, subst, cond}
use Rattle.areas.specs.Area.{IsAt}
use Rattle.format.specs.Stand.{trees_bytes}
use Rattle.queries.specs.Places.{HoldsAt}
use Rattle.areas.specs.AreaLaws.{is_part_lem}
use Rattle.paths.proofs.path.operand.Goals as goal

pub slice_bounds-result-end : goal.slice_bounds-result-end
slice_bounds-result-end c =
    omega (
      arith,
      (subst (λ b. HoldsAt trees_bytes (cond b c.args.query.now c.args.area.now) c.args.trees)
          c.if-literal.true c.requires).value_is.inside,
    )

pub returns-then-literal : goal.returns-then-literal
returns-then-literal c =
    λ ts h. is_part_lem (subst (λ b. IsAt (cond b c.args.query.now c.args.area.now) c.args.trees (trees_bytes ts))
    c.if-literal.true h)

pub slice_bounds-result-end-2 : goal.slice_bounds-result-end-2
slice_bounds-result-end-2 c =
    omega (
      arith,
      (subst (λ b. HoldsAt trees_bytes (cond b c.args.query.now c.args.area.now) c.args.trees)
          c.if-literal.false c.requires).value_is.inside,
    )

pub returns : goal.returns
returns c =
    λ ts h. is_part_lem (subst (λ b. IsAt (cond b c.args.query.now c.args.area.now) c.args.trees (trees_bytes ts))
    c.if-literal.false h)
