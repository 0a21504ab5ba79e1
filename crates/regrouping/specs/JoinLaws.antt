-- The join of two arrays: the bytes of each behind its head, one behind the other.
use Rattle.std.specs.Prelude.{◌≡◌, List, ◌++◌, ℕ, ◌-◌, ◌≤◌, length, take, drop, Ok, Err}
use Rattle.std.proofs.Common.{subst, arith, length-drop, take_all}
use Rattle.areas.specs.Area.{Wrote, Out, too_large}
use Rattle.areas.specs.AreaLaws.{wrote_fail, wrote_seq}

-- what is lent of an array from its head's end on
abbrev lent : List ℕ → List ℕ
lent s = take (length s - 3) (drop 3 s)

lent_is : (s : List ℕ) → lent s ≡ drop 3 s
lent_is s = take_all (length s - 3) (drop 3 s) (omega (arith, length-drop 3 s))

module _ (a : List ℕ) {w x : List ℕ} {d stop : ℕ} {r : Out} (h : Wrote w x d stop (lent a) r) where
  first : Wrote w x d stop (drop 3 a) r
  first = subst (λ l. Wrote w x d stop l r) (lent_is a) h

  pub join_fails : (b : List ℕ) → r ≡ Err too_large → Wrote w x d stop (drop 3 a ++ drop 3 b) (Err too_large)
  join_fails b z = wrote_fail first (drop 3 b) z

  pub join_ends : {m : ℕ} → r ≡ Ok m → m ≤ stop
  join_ends {m} z = (first.fits m z).room

  pub join_both : (b : List ℕ) → d ≤ length w → {m : ℕ} → r ≡ Ok m → {v : List ℕ} {o : Out} → Wrote x v m stop (lent b) o → Wrote w v d stop (drop 3 a ++ drop 3 b) o
  join_both b l {m} z {v} {o} k = wrote_seq first l z (subst (λ i. Wrote x v m stop i o) (lent_is b) k)
