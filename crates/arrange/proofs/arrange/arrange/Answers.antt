-- The proof of arrange::arrange::arrange, by answers to its goals: the classes of the subsets below k stand at the front.
use Rattle.std.proofs.Common.{arith, refl, ◌∙◌}
use Rattle.arrange.specs.ArrangeLaws as law
use Rattle.arrange.proofs.arrange.arrange.Goals as goal

pub enter_all-requires : goal.enter_all-requires
enter_all-requires c = c.requires

pub subsets-total-requires : goal.subsets-total-requires
subsets-total-requires c =
    record { value = c.requires.grouping; allowed = c.requires.few; value_is = c.requires.grouping_is }

pub loop-k-init : goal.loop-k-init
loop-k-init c = (refl, omega arith, λ gs bs e z. law.arranging_begin e)

pub arrange_subset-filled-requires : goal.arrange_subset-filled-requires
arrange_subset-filled-requires c =
    law.arranging_subset (law.entered c.enter_all.auto.work c.enter_all.ensures c.requires) c.loop-k.k
    (c.loop-k.invariant.2 c.requires.grouping c.requires.borne (law.entered c.enter_all.auto.work c.enter_all.ensures
    c.requires) (c.subsets-total.ensures c.requires.grouping c.requires.grouping_is)) (omega (
      arith,
      (c.subsets-total.ensures c.requires.grouping c.requires.grouping_is),
      c.loop-k.invariant.1,
      c.loop-k-test.true,
    ))

pub loop-k-preserved : goal.loop-k-preserved
loop-k-preserved c = (
  c.arrange_subset-filled.auto.work ∙ c.loop-k.invariant.0,
  omega (arith, c.loop-k.invariant.1, c.loop-k-test.true),
  λ gs bs e z. law.arranging_next e c.loop-k.k (c.loop-k.invariant.2 gs bs e z) (omega (
    arith,
    z,
    c.loop-k.invariant.1,
    c.loop-k-test.true,
  )) c.arrange_subset-filled.ensures,
)

pub shape_of-work : goal.shape_of-work
shape_of-work c = c.loop-k.invariant.0 ∙ c.enter_all.auto.work

pub returns : goal.returns
returns c =
    λ d. let e = law.entered c.enter_all.auto.work c.enter_all.ensures d in
    let z = c.subsets-total.ensures d.grouping d.grouping_is in
    law.arranging_end e c.loop-k.k (c.loop-k.invariant.2 d.grouping d.borne e z) (omega (arith, z, c.loop-k-test.false, c.loop-k.invariant.1))
