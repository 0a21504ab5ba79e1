-- What a test that passed says, and what a value that is there came from.
use Rattle.std.specs.Prelude.{◌≡◌, refl, Bool, true, false, cond, not, ◌&&◌, ℕ, suc, ◌≤◌, ◌<◌, T, eqb, leb, ltb}
use Rattle.std.proofs.Common.{sym, subst, true≢false, arith, le→leb}
use Rattle.std.proofs.Math.Option.{Option, none, some, map}
use Rattle.std.proofs.Math.Dec.{eqb_refl}
use Rattle.std.proofs.Math.Arith.{lt→nleb, le→nltb}
use Rattle.spec_trees.specs.Options.{◌>>=◌, only}

-- ---- tests
pub T_true : (b : Bool) → T b → b ≡ true
T_true true h = refl
T_true false h = absurd h

pub T_false : (b : Bool) → T (not b) → b ≡ false
T_false true h = absurd h
T_false false h = refl

pub true_T : {b : Bool} → b ≡ true → T b
true_T e = subst T (sym e) tt

pub false_T : {b : Bool} → b ≡ false → T (not b)
false_T e = subst (λ x. T (not x)) (sym e) tt

pub T_and : (a b : Bool) → T (a && b) → T a × T b
T_and true b h = (tt, h)
T_and false b h = absurd h

-- no test both passes and fails
pub apart : {P : Type 0} {b : Bool} → b ≡ true → b ≡ false → P
apart e f = absurd (true≢false (cc))

pub both_true : (a b : Bool) → (a && b) ≡ true → (a ≡ true) × (b ≡ true)
both_true true b e = (refl, e)
both_true false b e = apart e refl

pub leb_yes : (m n : ℕ) → m ≤ n → leb m n ≡ true
leb_yes m n h = T_true (leb m n) (le→leb m n h)

pub leb_no : (m n : ℕ) → n < m → leb m n ≡ false
leb_no m n h = T_false (leb m n) (lt→nleb m n h)

pub ltb_yes : (m n : ℕ) → m < n → ltb m n ≡ true
ltb_yes m n h = leb_yes (suc m) n h

pub ltb_no : (m n : ℕ) → n ≤ m → ltb m n ≡ false
ltb_no m n h = T_false (ltb m n) (le→nltb m n h)

pub eqb_same : (n : ℕ) → eqb n n ≡ true
eqb_same n = T_true (eqb n n) (eqb_refl n)

-- by cases, with what the test gave
pub split : {P : Type 0} (b : Bool) → (b ≡ true → P) → (b ≡ false → P) → P
split true f g = f refl
split false f g = g refl

pub cond_cases : {A : Type 0} (P : A → Type 0) (b : Bool) {x y : A} → (b ≡ true → P x) → (b ≡ false → P y) → P (cond b x y)
cond_cases P true f g = f refl
cond_cases P false f g = g refl

-- ---- options
pub only_some : {A : Type 0} (b : Bool) (x : Option A) {a : A} → only b x ≡ some a → T b × (x ≡ some a)
unfolding only
only_some true x e = (tt, e)
only_some false x e = let z : ◌≡◌ {A = ℕ} 0 1 = cc in absurd (omega arith)

pub map_some : {A B : Type 0} (f : A → B) (x : Option A) {b : B} → map f x ≡ some b → (a : A) × (x ≡ some a) × (f a ≡ b)
map_some f none e = let z : ◌≡◌ {A = ℕ} 0 1 = cc in absurd (omega arith)
map_some f (some a) e = (a, refl, cc)

pub bind_some : {A B : Type 0} (f : A → Option B) (x : Option A) {b : B} → (x >>= f) ≡ some b → (a : A) × (x ≡ some a) × (f a ≡ some b)
unfolding ◌>>=◌
bind_some f none e = let z : ◌≡◌ {A = ℕ} 0 1 = cc in absurd (omega arith)
bind_some f (some a) e = (a, refl, e)

pub some_equal : {A : Type 0} (a b : A) → ◌≡◌ {A = Option A} (some a) (some b) → a ≡ b
some_equal a b e = cc
