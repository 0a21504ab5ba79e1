-- The proof of paths::equality::path_is, by answers to its goals.
use Rattle.std.proofs.Common.{arith, sym, ◌∙◌}
use Rattle.spec_stages.specs.Paths.{apply}
use Rattle.paths.specs.WalkLaws.{walk_room}
use Rattle.paths.specs.EqualLaws.{array_absent, array_missing, array_given, array_part}
use Rattle.paths.proofs.equality.path_is.Goals as goal

pub steps-requires : goal.steps-requires
steps-requires c = walk_room c.requires

pub returns-in_default : goal.returns-in_default
returns-in_default c =
    λ path t g h. array_missing (apply path t) c.args.array.now ((c.piece.ensures path t g h).missing
    c.in_default.is)

pub slice_bounds-same_bytes-count : goal.slice_bounds-same_bytes-count
slice_bounds-same_bytes-count c =
    omega (
      arith,
      ((c.piece.ensures c.requires.path.value c.requires.stands.value c.requires.path.value_is
          c.requires.stands.value_is).part _ c.in-Some.is).array_is.ends,
      ((c.piece.ensures c.requires.path.value
          c.requires.stands.value c.requires.path.value_is c.requires.stands.value_is).part _ c.in-Some.is).array_is.inside,
    )

pub slice_bounds-same_bytes-start : goal.slice_bounds-same_bytes-start
slice_bounds-same_bytes-start c =
    omega (
      arith,
      ((c.piece.ensures c.requires.path.value c.requires.stands.value c.requires.path.value_is
          c.requires.stands.value_is).part _ c.in-Some.is).array_is.ends,
      ((c.piece.ensures c.requires.path.value
          c.requires.stands.value c.requires.path.value_is c.requires.stands.value_is).part _ c.in-Some.is).array_is.inside,
    )

pub slice_bounds-same_bytes-end : goal.slice_bounds-same_bytes-end
slice_bounds-same_bytes-end c =
    omega (
      arith,
      ((c.piece.ensures c.requires.path.value c.requires.stands.value c.requires.path.value_is
          c.requires.stands.value_is).part _ c.in-Some.is).array_is.ends,
      ((c.piece.ensures c.requires.path.value
          c.requires.stands.value c.requires.path.value_is c.requires.stands.value_is).part _ c.in-Some.is).array_is.inside,
    )

pub returns-then-steps-le1 : goal.returns-then-steps-le1
returns-then-steps-le1 c =
    λ path t g h. array_part (apply path t) c.args.array.now ((c.piece.ensures path t g h).part _ c.in-Some.is)
    c.same_bytes.ensures

pub returns-then-not-present : goal.returns-then-not-present
returns-then-not-present c =
    λ path t g h. array_absent (apply path t) c.args.array.now (sym (c.present.ensures path t g h) ∙
    c.if-not-present.true)

pub returns : goal.returns
returns c =
    λ path t g h. array_given (apply path t) c.args.array.now (sym (c.present.ensures path t g h) ∙
    c.if-not-present.false) (c.gives.ensures path t g h)
