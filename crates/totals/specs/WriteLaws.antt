-- Laws of writing a total.
use Rattle.std.specs.Prelude.{◌≡◌, List, [], ◌∷◌, ℕ, ℤ, None, Ok}
use Rattle.std.proofs.Math.Path.{refl, subst}
use Rattle.std.proofs.Common.{sym, ap, ◌∙◌, arith}
use Rattle.std.proofs.Math.Option.{Option, none, some}
use Rattle.spec_trees.specs.Tree.{integer, node, bare, trees}
use Rattle.spec_trees.specs.Bytes.{pattern, root_f, tree_f, tree_bytes}
use Rattle.spec_trees.proofs.FieldLaws.{bytes_one}
use Rattle.areas.specs.Area.{Wrote, span, Out}
use Rattle.bare.specs.Bare.{integer_tree}
use Rattle.bare.specs.BareLaws.{bare_bytes}
use Rattle.format.specs.Stand.{trees_bytes}
use Rattle.spec_stages.specs.Totals.{total_given}
use Rattle.data.specs.Value.{Value, WroteFound, value_of}
use Rattle.data.specs.ValueLaws.{value_absent, value_array}
use Rattle.totals.specs.declared.exact.Total.{Total}
use Rattle.totals.specs.Exact.{IsTotal, BitsOf}
use Rattle.totals.specs.Write.{WroteTotal}

-- ---- the bare tree
integer_bytes : (z : ℤ) → integer_tree (pattern z) ≡ trees_bytes (trees (node (integer z) bare ∷ []))
unfolding root_f tree_f tree_bytes
integer_bytes z = bare_bytes (integer z) ∙ sym (bytes_one (tree_f (node (integer z) bare)))

-- ---- what the total places
none_here : {t : Total} (x : Option ℤ) → t.count ≡ 0 → IsTotal t x → x ≡ none
none_here none z g = refl
none_here (some y) z g = absurd (omega (arith, g.counts))

module _ (w : List ℕ) (d stop : ℕ) (t : Total) where
  pub total_none : t.count ≡ 0 → WroteTotal w w (span d stop) t (Ok None)
  unfolding total_given
  total_none z x g f = value_absent w d stop (ap total_given (none_here x z g))

  pub total_some : {v : List ℕ} {x : ℕ} {o : Out} {r : Value} → (t.count ≡ 0 → ⊥) → BitsOf t x → r ≡ value_of o → Wrote w v d stop (integer_tree x) o
      → WroteTotal w v (span d stop) t r
  unfolding total_given
  total_some {v} {x} {o} {r} n b q h none g f = absurd (n g.counts)
  total_some {v} {x} {o} {r} n b q h (some z) g f =
      let s = subst (λ l. Wrote w v d stop l o) (ap integer_tree (b z g f) ∙ integer_bytes z) h in
      subst (WroteFound w v d stop (total_given (some z))) (sym q) (value_array (node (integer z) bare ∷ []) o refl s)
