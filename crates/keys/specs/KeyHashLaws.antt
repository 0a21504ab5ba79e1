-- Laws of a key's number: like trees have equal numbers; and how it is read where the pairs and the tree stand, pair by
-- pair.
use Rattle.std.specs.Prelude.{◌≡◌, List, true, ℕ}
use Rattle.std.proofs.Math.Path.{sym, ap}
use Rattle.std.proofs.Common.{◌∙◌}
use Rattle.spec_trees.specs.Tree.{Tree}
use Rattle.areas.specs.Area.{field_end, span}
use Rattle.spec_queries.specs.Query.{Pair}
use Rattle.spec_queries.specs.Bytes.{pair_f}
use Rattle.queries.specs.Places.{ReadsPair}
use Rattle.queries.specs.PartLaws.{list_parts, list_none}
use Rattle.queries.specs.declared.item.PairAt.{PairAt}
use Rattle.spec_stages.specs.Group.{key, alike}
use Rattle.spec_stages.proofs.AlikeLaws.{same_key_lem}
use Rattle.paths.specs.Walk.{Tells}
use Rattle.paths.specs.Hash.{given_hash}
use Rattle.keys.specs.KeyLaws.{pair_source}
use Rattle.keys.specs.KeyHash.{key_hash_from, key_hash, SourceHashIs, KeyHashFrom}

pub hash_alike : (gs : List Pair) (t u : Tree) → alike gs t u ≡ true → key_hash (key gs t) ≡ key_hash (key gs u)
unfolding alike
hash_alike gs t u e = ap key_hash ((same_key_lem (key gs t) (key gs u)).0 e)

pub source_hash : {q : List ℕ} {p e : ℕ} {r : PairAt} → ReadsPair q (span p e) r → {s : List ℕ} {a b n : ℕ} (h : ℕ)
    → Tells q r.source 0 s (span a b) (λ y. n ≡ given_hash h y) → SourceHashIs h q (span p e) s (span a b) n
source_hash reads h k x t g i = k x.source t (pair_source (reads x g)) i

-- ---- none, or the first pair and the rest
module _ (q : List ℕ) (at ge : ℕ) (s : List ℕ) (a b h : ℕ) where
  pub hash_none : at ≡ ge → KeyHashFrom h q (span at ge) s (span a b) h
  unfolding key_hash_from key
  hash_none z gs t g i = sym (ap (λ l. key_hash_from h (key l t)) (list_none pair_f gs z g))

  pub hash_next : {m n : ℕ} → (at ≡ ge → ⊥) → m ≡ field_end q at → SourceHashIs h q (span at m) s (span a b) n
      → (k : ℕ) → KeyHashFrom n q (span m ge) s (span a b) k → KeyHashFrom h q (span at ge) s (span a b) k
  unfolding key_hash_from key
  hash_next y z f k j gs t g i =
      let c = list_parts pair_f gs z y g in
      j c.rest t c.rest_is i ∙ ap (λ n. key_hash_from n (key c.rest t)) (f c.first t c.first_is i)
      ∙ sym (ap (λ l. key_hash_from h (key l t)) c.same)
