-- The proof of place::place::put_void, by answers to its goals.
use Rattle.place.specs.PlaceLaws.{void_wrote}
use Rattle.place.proofs.place.put_void.Goals as goal

pub returns : goal.returns
returns c = void_wrote c.copy_in.ensures
