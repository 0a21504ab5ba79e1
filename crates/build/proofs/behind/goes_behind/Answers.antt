-- The proof of build::behind::goes_behind, by answers to its goals.
use Rattle.std.proofs.Common.{arith, refl}
use Rattle.format.specs.StandLaws.{tree_places, holds_labels, labels_places}
use Rattle.build.specs.BehindLaws.{behind_no, behind_bare, behind_last}
use Rattle.build.proofs.behind.goes_behind.Goals as goal

pub bounds-area-root : goal.bounds-area-root
bounds-area-root c = omega (arith, tree_places c.requires.1 refl)

pub returns-then-area-root-ne3 : goal.returns-then-area-root-ne3
returns-then-area-root-ne3 c = behind_no c.args.area.now c.args.built c.args.part

pub field_end-l-requires : goal.field_end-l-requires
field_end-l-requires c = omega (arith, tree_places c.requires.1 refl)

pub returns-then-l-part : goal.returns-then-l-part
returns-then-l-part c = behind_bare c.if-area-root-ne3.false c.field_end-l.ensures c.if-l-part.true

pub field_end-m-requires : goal.field_end-m-requires
field_end-m-requires c = omega (arith, tree_places c.requires.0 refl)

pub last_label-last-requires : goal.last_label-last-requires
last_label-last-requires c = holds_labels c.requires.0 c.field_end-m.ensures

pub label_at-requires : goal.label_at-requires
label_at-requires c =
    omega (arith, labels_places (holds_labels c.requires.1 c.field_end-l.ensures) c.if-l-part.false refl)

pub returns : goal.returns
returns c =
    behind_last c.if-area-root-ne3.false c.field_end-l.ensures c.if-l-part.false c.field_end-m.ensures
    c.last_label-last.ensures c.label_at.ensures refl
