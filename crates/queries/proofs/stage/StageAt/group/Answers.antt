-- `StageAt::group`: by the stage.
use Rattle.std.proofs.Common.{refl}
use Rattle.queries.proofs.stage.StageAt.group.Goals as goal

pub returns-in-Group : goal.returns-in-Group
returns-in-Group c = rw c.in-Group.is refl
