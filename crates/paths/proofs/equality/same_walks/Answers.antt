-- The proof of paths::equality::same_walks, by answers to its goals.
use Rattle.std.proofs.Common.{sym, ap, ◌∙◌, not}
use Rattle.spec_stages.specs.Paths.{apply}
use Rattle.paths.specs.SameLaws.{apply_allowed, absent_same, absent_other, present_same}
use Rattle.paths.proofs.equality.same_walks.Goals as goal

pub returns-then-not-present : goal.returns-then-not-present
returns-then-not-present c =
    λ path path2 t u g g2 ot h ou h2. ap not (c.present-then-not-present.ensures path2 u g2 h2) ∙ absent_same (apply
    path t) (apply path2 u) (sym (c.present.ensures path t g h) ∙ c.if-not-present.true)

pub returns-then-not-present-2 : goal.returns-then-not-present-2
returns-then-not-present-2 c =
    λ path path2 t u g g2 ot h ou h2. absent_other (apply path t) (apply path2 u) (sym (c.present.ensures path t g h) ∙
    c.if-not-present.false) (sym (c.present-2.ensures path2 u g2 h2) ∙ c.if-not-present-2.true)

pub returns : goal.returns
returns c =
    λ path path2 t u g g2 ot h ou h2. c.same_elements.ensures path t g h path2 u g2 h2 ∙ present_same (apply path t)
    (apply path2 u) (sym (c.present.ensures path t g h) ∙ c.if-not-present.false) (sym
    (c.present-2.ensures path2 u g2 h2) ∙ c.if-not-present-2.false) (apply_allowed path t ot) (apply_allowed path2 u ou)
