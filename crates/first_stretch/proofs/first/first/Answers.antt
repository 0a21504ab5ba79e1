-- The proof of first_stretch::first::first, by answers to its goals.
use Rattle.first_stretch.specs.FirstLaws.{first_stages, first_standing, first_copied}
use Rattle.first_stretch.proofs.first.first.Goals as goal

pub none_before-requires : goal.none_before-requires
none_before-requires c = first_stages c.requires

pub number-requires : goal.number-requires
number-requires c = first_standing c.requires c.copy_in.auto.work c.copy_in.ensures

pub returns-then-none_before : goal.returns-then-none_before
returns-then-none_before c =
    first_copied c.requires c.copy_in.auto.work c.copy_in.ensures c.number.ensures c.if-none_before.true
    c.none_before.ensures
