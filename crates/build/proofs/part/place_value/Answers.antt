-- The proof of build::part::place_value, by answers to its goals.
use Rattle.std.proofs.Common.{Ok, ap, ◌∙◌, arith}
use Rattle.build.specs.MadeLaws.{placing_behind, places_none, places_at, places_large}
use Rattle.areas.specs.AreaLaws.{handed_on}
use Rattle.build.proofs.part.place_value.Goals as goal

pub place_heads-requires : goal.place_heads-requires
place_heads-requires c = (
  c.requires.along,
  placing_behind c.requires (c.in_ok-value.was ∙ ap Ok c.in-Some.is),
  omega (arith, c.requires.room, c.requires.inside),
  c.requires.small,
)

pub returns-in-None : goal.returns-in-None
returns-in-None c = places_none c.requires (c.in_ok-value.was ∙ ap Ok c.in-None.is) c.put_void.ensures

pub returns-in-Some : goal.returns-in-Some
returns-in-Some c = places_at c.requires (c.in_ok-value.was ∙ ap Ok c.in-Some.is) c.place_heads.ensures

pub returns-in_err-value : goal.returns-in_err-value
returns-in_err-value c =
    rw (handed_on _ c.from_residual.result c.from_residual.ensures.1) (places_large c.requires c.in_err-value.was)
