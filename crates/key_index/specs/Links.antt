-- Links between elements that stand in an area. Each has an offset, and 0 is none; the links are a function of the offset, the
-- number that the area holds for it.
use Rattle.std.specs.Prelude.{◌≡◌, List, [], ◌∷◌, map, reverse, Bool, not, cond, ◌≢◌, ◌⊎◌, ℕ, ◌+◌, ◌≤◌, ◌<◌, eqb}
use Rattle.spec_trees.specs.Lists.{filter, all, All}

-- ---- elements and where they stand
-- an offset, and what stands there
abbrev pub Spot : Type 0 → Type 0
Spot A = ℕ × A

module _ {A : Type 0} (size : A → ℕ) where
  -- one behind another, from a
  unfoldable pub spots : ℕ → List A → List (Spot A)
  spots a [] = []
  spots a (x ∷ xs) = (a, x) ∷ spots (a + size x) xs

  -- and where they end
  unfoldable pub end : ℕ → List A → ℕ
  end a [] = a
  end a (x ∷ xs) = end (a + size x) xs

-- g or more above, or below
abbrev pub up : ℕ → ℕ → ℕ → Type 0
up g a b = a + g ≤ b

abbrev pub down : ℕ → ℕ → ℕ → Type 0
down g a b = b + g ≤ a

-- the same, or g or more away
abbrev pub Apart : ℕ → ℕ → ℕ → Type 0
Apart g a b = (a ≡ b) ⊎ ((a + g ≤ b) ⊎ (b + g ≤ a))

module _ {A : Type 0} where
  abbrev pub elements : List (Spot A) → List A
  elements ss = map (λ s. s.1) ss

  -- a has R to the first offset, and each to the one behind it
  abbrev pub Ordered : (ℕ → ℕ → Type 0) → ℕ → List (Spot A) → Type 0
  Ordered R a [] = Unit {0}
  Ordered R a (s ∷ ss) = R a s.0 × Ordered R s.0 ss

  abbrev pub Rising : ℕ → ℕ → List (Spot A) → Type 0
  Rising g = Ordered (up g)

  -- 0 is none
  abbrev pub Positive : List (Spot A) → Type 0
  Positive ss = All (λ s. 0 < s.0) ss

  -- ---- the first that passes
  unfoldable pub passing : (A → Bool) → List (Spot A) → List (Spot A)
  passing f ss = filter (λ s. f s.1) ss

  -- where a list begins
  unfoldable pub offset : List (Spot A) → ℕ
  offset [] = 0
  offset (s ∷ ss) = s.0

  unfoldable pub first_of : (A → Bool) → List (Spot A) → ℕ
  first_of f ss = offset (passing f ss)

  -- whether none passes
  abbrev pub none_of : (A → Bool) → List (Spot A) → Bool
  none_of f ss = all (λ s. not (f s.1)) ss

  -- ---- links
  -- the link of each is the first behind it that is alike
  abbrev pub Links : (A → A → Bool) → (ℕ → ℕ) → List (Spot A) → Type 0
  Links e link [] = Unit {0}
  Links e link (s ∷ ss) = (link s.0 ≡ first_of (e s.1) ss) × Links e link ss

  -- following links from o lists just these
  abbrev pub Follows : (ℕ → ℕ) → ℕ → List (Spot A) → Type 0
  Follows link o [] = o ≡ 0
  Follows link o (s ∷ ss) = (o ≡ s.0) × Follows link (link s.0) ss

  -- two have the same number
  abbrev pub same_slot : (A → ℕ) → A → A → Bool
  same_slot slot x y = eqb (slot x) (slot y)

  -- for each number below n, the first that has it
  abbrev pub Heads : (A → ℕ) → ℕ → (ℕ → ℕ) → List (Spot A) → Type 0
  Heads slot n heads ss = (h : ℕ) → h < n → heads h ≡ first_of (λ x. eqb (slot x) h) ss

-- ---- a walk along links, at o: what is left to list, of which P holds, ordered by R behind a
pub record Walk {A : Type 0} (P : Spot A → Type 0) (R : ℕ → ℕ → Type 0) (link : ℕ → ℕ) (a o : ℕ) (ss : List (Spot A)) : Type 0 where
  pub follows : Follows link o ss
  pub holds : All P ss
  pub ordered : Ordered R a ss

-- ---- entering x at b, behind the others, of which the last alike stands at y (0: none is)
-- the link of y, if there is one, becomes b, that of b becomes 0, and those at offsets g or more away stay
pub record Entered (g : ℕ) (link link' : ℕ → ℕ) (y b : ℕ) : Type 0 where
  pub linked : y ≢ 0 → link' y ≡ b
  pub ended : link' b ≡ 0
  pub before : (o : ℕ) → o + g ≤ y → link' o ≡ link o
  pub between : (o : ℕ) → y + g ≤ o → o + g ≤ b → link' o ≡ link o

-- ---- the index of all entered so far, in order: links forward among those alike, and backward among those of one number
pub record Indexed {A : Type 0} (e : A → A → Bool) (slot : A → ℕ) (n : ℕ) (next back heads : ℕ → ℕ) (ss : List (Spot A)) : Type 0 where
  pub nexts : Links e next ss
  pub backs : Links (same_slot slot) back (reverse ss)
  pub tops : Heads slot n heads (reverse ss)

-- what entering x at b stores
pub record Stored {A : Type 0} (e : A → A → Bool) (slot : A → ℕ) (n g : ℕ) (ss : List (Spot A)) (b : ℕ) (x : A)
    (next back heads next' back' heads' : ℕ → ℕ) : Type 0 where
  pub nexts : Entered g next next' (first_of (λ t. e t x) (reverse ss)) b
  pub back_set : back' b ≡ heads (slot x)
  pub backs_stay : All (λ s. back' s.0 ≡ back s.0) ss
  pub tops : (h : ℕ) → h < n → heads' h ≡ cond (eqb (slot x) h) b (heads h)
