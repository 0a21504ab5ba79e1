-- `map`, `filter`, `all`, `gather` and `each` one after another and over joined lists, for all functions.
use Rattle.std.specs.Prelude.{◌≡◌, Bool}
use Rattle.std.proofs.Math.Path.{refl, ap, ap₂}
use Rattle.std.proofs.Common.{sym, ◌∙◌}
use mathlib.Core.List.{List, [], ◌∷◌, ◌++◌, map, map-append, append_assoc}
use Rattle.std.proofs.Math.Bool.{true, false, cond, ◌&&◌, and_comm}
use Rattle.std.proofs.Math.Option
use Rattle.std.proofs.Math.Option.{Option, some}
use Rattle.spec_trees.specs.Options.{◌>>=◌}
use Rattle.spec_trees.specs.OptionLaws.{apart, map_some, bind_some, some_equal}
use Rattle.spec_trees.specs.Lists.{filter, all, All, gather, each}

-- ---- what passes, and whether all do
module _ {A : Type 0} where
  pub filter_append : (f : A → Bool) (a b : List A) → filter f (a ++ b) ≡ filter f a ++ filter f b
  unfolding filter
  filter_append f [] b = refl
  filter_append f (x ∷ a) b = go (f x) (filter_append f a b)
    where
      go : (c : Bool) → filter f (a ++ b) ≡ filter f a ++ filter f b
          → cond c (x ∷ filter f (a ++ b)) (filter f (a ++ b)) ≡ cond c (x ∷ filter f a) (filter f a) ++ filter f b
      go true e = ap (λ y. x ∷ y) e
      go false e = e

  pub all_append : (f : A → Bool) (a b : List A) → all f (a ++ b) ≡ (all f a && all f b)
  unfolding all
  all_append f [] b = refl
  all_append f (x ∷ a) b = go (f x) (all_append f a b)
    where
      go : (c : Bool) → all f (a ++ b) ≡ (all f a && all f b) → (c && all f (a ++ b)) ≡ ((c && all f a) && all f b)
      go true e = e
      go false e = refl

  pub filter_same : (f g : A → Bool) → ((x : A) → f x ≡ g x) → (xs : List A) → filter f xs ≡ filter g xs
  unfolding filter
  filter_same f g h [] = refl
  filter_same f g h (x ∷ xs) = rw (h x, filter_same f g h xs) refl

  pub all_same : (f g : A → Bool) → ((x : A) → f x ≡ g x) → (xs : List A) → all f xs ≡ all g xs
  unfolding all
  all_same f g h [] = refl
  all_same f g h (x ∷ xs) = ap₂ ◌&&◌ (h x) (all_same f g h xs)

  -- a test with one answer passes all or nothing
  pub filter_constant : (f : A → Bool) (b : Bool) (xs : List A) → All (λ x. f x ≡ b) xs → filter f xs ≡ cond b xs []
  unfolding filter
  filter_constant f true [] h = refl
  filter_constant f true (x ∷ xs) h = rw h.0 (ap (λ l. x ∷ l) (filter_constant f true xs h.1))
  filter_constant f false [] h = refl
  filter_constant f false (x ∷ xs) h = rw h.0 (filter_constant f false xs h.1)

  -- of what passes g, what passes f
  pub filter_both : (f g : A → Bool) (xs : List A) → filter f (filter g xs) ≡ filter (λ x. g x && f x) xs
  unfolding filter
  filter_both f g [] = refl
  filter_both f g (x ∷ xs) = go (g x) (filter_both f g xs)
    where
      go : (b : Bool) {ys : List A} → filter f (filter g xs) ≡ ys → filter f (cond b (x ∷ filter g xs) (filter g xs)) ≡ cond (b && f x) (x ∷ ys) ys
      go true e = ap (λ l. cond (f x) (x ∷ l) l) e
      go false e = e

  pub filter_swap : (f g : A → Bool) (xs : List A) → filter f (filter g xs) ≡ filter g (filter f xs)
  filter_swap f g xs =
      filter_both f g xs ∙ filter_same (λ x. g x && f x) (λ x. f x && g x) (λ x. and_comm (g x) (f x)) xs ∙ sym (filter_both g f xs)

  -- what passes f passes g: to try g first leaves out nothing
  pub filter_implied : (f g : A → Bool) → ((x : A) → f x ≡ true → g x ≡ true) → (xs : List A) → filter f (filter g xs) ≡ filter f xs
  filter_implied f g h xs = filter_both f g xs ∙ filter_same (λ x. g x && f x) f (λ x. implied (g x) (f x) (h x)) xs
    where
      implied : (a b : Bool) → (b ≡ true → a ≡ true) → (a && b) ≡ b
      implied true b h = refl
      implied false true h = apart (h refl) refl
      implied false false h = refl

  -- before another list it may have passed already
  pub filter_inside : (f : A → Bool) (a b : List A) → filter f (filter f a ++ b) ≡ filter f (a ++ b)
  filter_inside f a b =
      filter_append f (filter f a) b ∙ ap (λ l. l ++ filter f b) (filter_implied f f (λ x z. z) a) ∙ sym (filter_append f a b)

-- ---- from one list to another
module _ {A B : Type 0} where
  pub gather_append : (f : A → List B) (a b : List A) → gather f (a ++ b) ≡ gather f a ++ gather f b
  unfolding gather
  gather_append f [] b = refl
  gather_append f (x ∷ a) b = rw (gather_append f a b) (sym (append_assoc (f x) (gather f a) (gather f b)))

  -- element by element
  pub map_same : (f g : A → B) (xs : List A) → All (λ x. f x ≡ g x) xs → map f xs ≡ map g xs
  map_same f g [] h = refl
  map_same f g (x ∷ xs) h = ap₂ ◌∷◌ h.0 (map_same f g xs h.1)

  pub gather_same : (f g : A → List B) (xs : List A) → All (λ x. f x ≡ g x) xs → gather f xs ≡ gather g xs
  unfolding gather
  gather_same f g [] h = refl
  gather_same f g (x ∷ xs) h = ap₂ ◌++◌ h.0 (gather_same f g xs h.1)

  pub each_same : (f g : A → Option B) (xs : List A) → All (λ x. f x ≡ g x) xs → each f xs ≡ each g xs
  unfolding each
  each_same f g [] h = refl
  each_same f g (x ∷ xs) h = ap₂ (λ o l. o >>= λ y. Option.map (λ ys. y ∷ ys) l) h.0 (each_same f g xs h.1)

  -- a test behind, and the same test before
  pub filter_map : (f : B → Bool) (g : A → B) (xs : List A) → filter f (map g xs) ≡ map g (filter (λ x. f (g x)) xs)
  unfolding filter
  filter_map f g [] = refl
  filter_map f g (x ∷ xs) = rw (filter_map f g xs) (go (f (g x)) (filter (λ y. f (g y)) xs))
    where
      go : (b : Bool) (ys : List A) → cond b (g x ∷ map g ys) (map g ys) ≡ map g (cond b (x ∷ ys) ys)
      go true ys = refl
      go false ys = refl

  pub all_map : (f : B → Bool) (g : A → B) (xs : List A) → all f (map g xs) ≡ all (λ x. f (g x)) xs
  unfolding all
  all_map f g [] = refl
  all_map f g (x ∷ xs) = ap (λ b. f (g x) && b) (all_map f g xs)

  pub filter_gather : (f : B → Bool) (g : A → List B) (xs : List A) → filter f (gather g xs) ≡ gather (λ x. filter f (g x)) xs
  unfolding filter gather
  filter_gather f g [] = refl
  filter_gather f g (x ∷ xs) = filter_append f (g x) (gather g xs) ∙ ap (λ l. filter f (g x) ++ l) (filter_gather f g xs)

-- ---- one behind another
module _ {A B C : Type 0} where
  pub map_gather : (f : B → C) (g : A → List B) (xs : List A) → map f (gather g xs) ≡ gather (λ x. map f (g x)) xs
  unfolding gather
  map_gather f g [] = refl
  map_gather f g (x ∷ xs) = map-append f (g x) (gather g xs) ∙ ap (λ l. map f (g x) ++ l) (map_gather f g xs)

  pub gather_gather : (f : B → List C) (g : A → List B) (xs : List A) → gather f (gather g xs) ≡ gather (λ x. gather f (g x)) xs
  unfolding gather
  gather_gather f g [] = refl
  gather_gather f g (x ∷ xs) = gather_append f (g x) (gather g xs) ∙ ap (λ l. gather f (g x) ++ l) (gather_gather f g xs)

  pub each_map : (f : B → Option C) (g : A → B) (xs : List A) → each f (map g xs) ≡ each (λ x. f (g x)) xs
  unfolding each
  each_map f g [] = refl
  each_map f g (x ∷ xs) = ap (λ l. f (g x) >>= λ y. Option.map (λ ys. y ∷ ys) l) (each_map f g xs)

-- ---- what f gave of each
module _ {A B : Type 0} (f : A → Option B) where
  pub record Each (x : A) (xs : List A) (ys : List B) : Type 0 where
    pub first : B
    pub others : List B
    pub first_is : f x ≡ some first
    pub others_are : each f xs ≡ some others
    pub all_are : first ∷ others ≡ ys

  pub each_parts : (x : A) (xs : List A) {ys : List B} → each f (x ∷ xs) ≡ some ys → Each x xs ys
  unfolding each
  each_parts x xs h =
      let a = bind_some (λ y. Option.map (λ ys. y ∷ ys) (each f xs)) (f x) h in
      let b = map_some (λ ys. a.0 ∷ ys) (each f xs) a.2 in
      record { first = a.0; others = b.0; first_is = a.1; others_are = b.1; all_are = b.2 }

  each_cond : (b : Bool) (x : A) (xs : List A) {y : B} {ys : List B} → f x ≡ some y → each f xs ≡ some ys
      → each f (cond b (x ∷ xs) xs) ≡ some (cond b (y ∷ ys) ys)
  unfolding each ◌>>=◌
  each_cond true x xs p h = ap₂ (λ o l. o >>= λ z. Option.map (λ zs. z ∷ zs) l) p h
  each_cond false x xs p h = h

  -- where g leads from what f gives back to what it was given
  module _ (g : B → A) where
    abbrev pub Back : A → Type 0
    Back x = (y : B) → f x ≡ some y → g y ≡ x

    pub each_back : (xs : List A) {ys : List B} → All Back xs → each f xs ≡ some ys → map g ys ≡ xs
    unfolding each
    each_back [] {ys} a h = ap (map g) (sym (some_equal [] ys h))
    each_back (x ∷ xs) a h =
        let c = each_parts x xs h in ap (map g) (sym c.all_are) ∙ ap₂ ◌∷◌ (a.0 c.first c.first_is) (each_back xs a.1 c.others_are)

    -- f of those that pass gave those that come of them
    pub each_filter : (q : A → Bool) (xs : List A) {ys : List B} → All Back xs → each f xs ≡ some ys → each f (filter q xs) ≡ some (filter (λ y. q (g y)) ys)
    unfolding each filter
    each_filter q [] {ys} a h = ap (λ l. some (filter (λ y. q (g y)) l)) (some_equal [] ys h)
    each_filter q (x ∷ xs) a h =
        let c = each_parts x xs h in
        let kept = filter (λ y. q (g y)) c.others in
        each_cond (q x) x (filter q xs) c.first_is (each_filter q xs a.1 c.others_are)
        ∙ ap (λ b. some (cond b (c.first ∷ kept) kept)) (ap q (sym (a.0 c.first c.first_is)))
        ∙ ap (λ l. some (filter (λ y. q (g y)) l)) c.all_are

pub gather_map : {A B C : Type 0} (f : B → List C) (g : A → B) (xs : List A) → gather f (map g xs) ≡ gather (λ x. f (g x)) xs
unfolding gather
gather_map f g [] = refl
gather_map f g (x ∷ xs) = ap (λ l. f (g x) ++ l) (gather_map f g xs)

-- where a test passes all or nothing of what g gives, it may as well be put before g
pub gather_filter : {A B : Type 0} (f : B → Bool) (q : A → Bool) (g : A → List B) → ((x : A) → filter f (g x) ≡ cond (q x) (g x) [])
    → (xs : List A) → filter f (gather g xs) ≡ gather g (filter q xs)
unfolding filter gather
gather_filter f q g h [] = refl
gather_filter f q g h (x ∷ xs) = filter_append f (g x) (gather g xs) ∙ ap₂ ◌++◌ (h x) (gather_filter f q g h xs) ∙ go (q x)
  where
    go : (b : Bool) → cond b (g x) [] ++ gather g (filter q xs) ≡ gather g (cond b (x ∷ filter q xs) (filter q xs))
    go true = refl
    go false = refl
