-- Whether two things are equal is decided, by computing.
use Rattle.std.specs.Prelude.{◌≡◌, refl, List, [], ◌∷◌, ℕ, ℤ, pos, negsuc}
use Rattle.std.proofs.Common.{sym, ap, ap₂, ◌∙◌, arith}
use mathlib.Core.HLevel.{Discrete}
use Rattle.std.proofs.Math.Bool.{Bool-discrete}
use Rattle.std.proofs.Math.Option.{none, some}
use Rattle.std.proofs.Math.Decide.{ℕ_discrete}
use Rattle.spec_trees.specs.Tree.{Root-discrete, Tree, Trees, Trees-discrete, list, trees}
use Rattle.spec_trees.specs.OptionLaws.{some_equal}
use Rattle.spec_trees.specs.SizeLaws.{list_trees}
use Rattle.spec_stages.specs.Paths.{Given}

-- the library's decisions of integers and of lists do not compute everywhere; these do
unfoldable pub int? : Discrete ℤ
unfolding ℕ_discrete
int? (pos a) (pos b) = elim (ℕ_discrete a b) [ yes e ↦ yes (ap pos e) | no f ↦ no (λ e. f (cc)) ]
int? (pos a) (negsuc b) = no (λ e. let z : ◌≡◌ {A = ℕ} 0 1 = cc in omega arith)
int? (negsuc a) (pos b) = no (λ e. let z : ◌≡◌ {A = ℕ} 0 1 = cc in omega arith)
int? (negsuc a) (negsuc b) = elim (ℕ_discrete a b) [ yes e ↦ yes (ap negsuc e) | no f ↦ no (λ e. f (cc)) ]

unfoldable pub bytes? : Discrete (List ℕ)
unfolding ℕ_discrete
bytes? [] [] = yes refl
bytes? [] (y ∷ ys) = no (λ e. let z : ◌≡◌ {A = ℕ} 0 1 = cc in omega arith)
bytes? (x ∷ xs) [] = no (λ e. let z : ◌≡◌ {A = ℕ} 0 1 = cc in omega arith)
bytes? (x ∷ xs) (y ∷ ys) = elim (ℕ_discrete x y) [ no f ↦ no (λ e. f (cc)) | yes e ↦ elim (bytes? xs ys) [ no g ↦ no (λ e'. g (cc)) | yes e' ↦ yes (ap₂ ◌∷◌ e e') ] ]

unfoldable pub trees? : Discrete Trees
unfolding int? bytes? ℕ_discrete
trees? = Trees-discrete (Root-discrete Bool-discrete int? bytes?) ℕ_discrete

-- arrays as lists
unfoldable pub array? : Discrete (List Tree)
unfolding trees?
array? a b = elim (trees? (trees a) (trees b)) [ yes e ↦ yes (sym (list_trees a) ∙ ap list e ∙ list_trees b) | no f ↦ no (λ e. f (ap trees e)) ]

-- what a path or data gives: absent, or an array
unfoldable pub given? : Discrete Given
unfolding array?
given? none none = yes refl
given? none (some b) = no (λ e. let z : ◌≡◌ {A = ℕ} 0 1 = cc in omega arith)
given? (some a) none = no (λ e. let z : ◌≡◌ {A = ℕ} 0 1 = cc in omega arith)
given? (some a) (some b) = elim (array? a b) [ yes e ↦ yes (ap some e) | no f ↦ no (λ e. f (some_equal a b e)) ]
