-- The proof of paths::hash::hash_path, by answers to its goals.
use Rattle.std.proofs.Common.{sym, ◌∙◌}
use Rattle.spec_stages.specs.Paths.{apply}
use Rattle.paths.specs.WalkLaws.{walk_room}
use Rattle.paths.specs.HashLaws.{given_absent, given_present, found_absent, found_piece}
use Rattle.paths.proofs.hash.hash_path.Goals as goal

pub steps-requires : goal.steps-requires
steps-requires c = walk_room c.requires.0

pub returns-in_default : goal.returns-in_default
returns-in_default c = (
  c.hash_byte.ensures.0,
  λ path t g h. found_absent c.args.number (apply path t) (c.piece.ensures path t g h)
      c.in_default.is c.hash_byte.ensures.1,
)

pub hash_trees-requires : goal.hash_trees-requires
hash_trees-requires c = (
  record {
    value = ((c.piece.ensures c.requires.0.path.value c.requires.0.stands.value
        c.requires.0.path.value_is c.requires.0.stands.value_is).part _ c.in-Some.is).array;
    value_is =
        ((c.piece.ensures c.requires.0.path.value c.requires.0.stands.value c.requires.0.path.value_is
        c.requires.0.stands.value_is).part _ c.in-Some.is).array_is;
  },
  c.hash_byte-then-steps-le1.ensures.0,
)

pub returns-then-steps-le1 : goal.returns-then-steps-le1
returns-then-steps-le1 c = (
  c.hash_trees.ensures.0,
  λ path t g h. found_piece c.args.number (apply path t) (c.piece.ensures path t g h)
      c.in-Some.is c.hash_byte-then-steps-le1.ensures.1 c.hash_trees.ensures.1,
)

pub returns-then-not-present : goal.returns-then-not-present
returns-then-not-present c = (
  c.hash_byte-then-not-present.ensures.0,
  λ path t g h. given_absent c.args.number (apply path t) (sym
      (c.present.ensures path t g h) ∙ c.if-not-present.true) c.hash_byte-then-not-present.ensures.1,
)

pub returns : goal.returns
returns c = (
  c.hash_walk.ensures.0,
  λ path t g h. given_present c.args.number (apply path t) (sym (c.present.ensures path t g h)
      ∙ c.if-not-present.false) c.hash_byte-2.ensures.1 (c.hash_walk.ensures.1 path t g h),
)
