-- What reading the arranged array asks of the area, and what it says: class after class is read.
use Rattle.std.specs.Prelude.{◌≡◌, List, ◌++◌, ℕ, ◌+◌, ◌*◌, ◌≤◌, length}
use Rattle.spec_trees.specs.Limits.{work_min}
use Rattle.spec_trees.specs.Lists.{All}
use Rattle.spec_trees.specs.Tree.{Tree}
use Rattle.spec_trees.specs.Within.{AllowedA}
use Rattle.areas.specs.Area.{Is}
use Rattle.queries.specs.Places.{array_trees}
use Rattle.spec_stages.specs.Group.{Class}
use Rattle.spec_stages.specs.Flat.{flat}
use Rattle.map.specs.Map.{trees_max}
use Rattle.positions.specs.Bearing.{Position}
use Rattle.key_index.specs.Index.{numbers_at}
use Rattle.arrange.specs.Arrange.{headed, arranged, trees_of, number_bytes, Arranged}
use Rattle.key_index.specs.declared.front.Reached.{Reached}

-- each class has the position of its first tree, which p gives
abbrev pub Stems : (Tree → ℕ) → List Class → Type 0
Stems p cs = All (λ c. Position (p c.0)) cs

-- classes stand at the front, up to n
pub record ClassesAt (w : List ℕ) (n : ℕ) : Type 0 where
  pub stem : Tree → ℕ
  pub classes : List Class
  pub stems : Stems stem classes
  pub allowed : AllowedA (flat classes)
  pub stands : Arranged w n stem classes
  pub short : n ≤ trees_max
  pub size : length w ≡ work_min

-- ---- what is left to read
abbrev pub reached : ℕ → ℕ → Reached
reached x i = record { to = x; count = i }

-- these trees stand there, up to n, and their numbers; a tree has six bytes or more
pub record Unread (w : List ℕ) (f : Reached) (n : ℕ) (ms : List (ℕ × Tree)) : Type 0 where
  pub trees_is : Is w f.to n (array_trees (trees_of ms))
  pub numbers_is : Is w (numbers_at + 2 * f.count) (numbers_at + 2 * f.count + length (number_bytes ms)) (number_bytes ms)
  pub sparse : 6 * f.count ≤ f.to

-- ---- where a class ends: trees of it are left, and other classes, whose positions are not 0
pub record EndReady (w : List ℕ) (f : Reached) (n : ℕ) : Type 0 where
  pub rest : List Tree
  pub stem : Tree → ℕ
  pub others : List Class
  pub stems : Stems stem others
  pub unread : Unread w f n (headed 0 rest ++ arranged stem others)
  pub small : length w ≤ work_min

-- whatever they are, the class's trees end there, and the other classes are left
abbrev pub EndIs : (w : List ℕ) (f : Reached) (n : ℕ) → Reached → Type 0
EndIs w f n r = (ts : List Tree) (p : Tree → ℕ) (cs : List Class) → Stems p cs → Unread w f n (headed 0 ts ++ arranged p cs)
    → Is w f.to r.to (array_trees ts) × Unread w r n (arranged p cs)
