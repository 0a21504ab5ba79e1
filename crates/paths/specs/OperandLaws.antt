-- What a path of at most one label gives stands in one piece.
use Rattle.std.proofs.Math.Path.{◌≡◌, subst}
use Rattle.std.specs.Prelude.{refl, List, [], ◌∷◌, ℕ, ◌+◌, ◌≤◌, ◌<◌, drop, Some}
use Rattle.std.proofs.Common.{sym, ap, ◌∙◌, append-nil, arith, drop_of_length-le}
use Rattle.std.proofs.Math.Option.{some}
use Rattle.spec_trees.specs.Options.{◌>>=◌}
use Rattle.spec_trees.specs.Tree.{ε, ◌▹◌}
use Rattle.spec_trees.specs.Bytes.{bytes, tree_fs, tree_bytes}
use Rattle.areas.specs.Area.{Is, span}
use Rattle.areas.specs.declared.span.Span.{Span}
use Rattle.format.specs.Stand.{ArrayIs, FoundIs}
use Rattle.queries.specs.Steps.{step_count, step_at}
use Rattle.queries.specs.StepLaws.{steps_are}
use Rattle.spec_stages.specs.Paths.{over, reached, apply}
use Rattle.spec_stages.proofs.PathLaws.{given_itself}
use Rattle.paths.specs.Walk.{Tells, Under}
use Rattle.paths.specs.WalkLaws.{step_apply, tells_end}
use Rattle.format.specs.Labels.{Found}

module _ (q : List ℕ) (p : Span) (s : List ℕ) (a b : ℕ) where
  pub piece_whole : 0 ≡ step_count q p → Tells q p 0 s (span a b) (λ x. FoundIs s (span a b) x (Some (span a b)))
  unfolding bytes tree_bytes tree_fs
  piece_whole z = tells_end q p 0 s a b (λ x. FoundIs s (span a b) x (Some (span a b))) z (λ t h. record {
    part = λ f y. let i : span a b ≡ f = cc in subst (λ at. ArrayIs s (span a b) (some (t ∷ [])) at) i record {
      array = t ▹ ε;
      same = refl;
      array_is = subst (Is s a b) (sym (append-nil (tree_bytes t))) h;
      after = omega arith;
      within = omega arith;
    };
    missing = λ y. let x : ◌≡◌ {A = ℕ} 0 1 = cc in absurd (omega arith);
  })

  pub piece_under : {r : Found} → 0 < step_count q p → step_count q p ≤ 1 → Under q p 0 s (span a b) r → Tells q p 0 s (span a b) (λ x. FoundIs s (span a b) x r)
  piece_under {r} n l u path t g h =
      let k : drop (0 + 1) path ≡ [] = drop_of_length-le path {i = 0 + 1} (omega (arith, steps_are path g)) in
      subst (λ x. FoundIs s (span a b) x r)
      (sym (step_apply q p 0 n path t g ∙ ap (λ c. reached (step_at q p 0) t >>= over (apply c)) k ∙ given_itself (reached (step_at q p 0) t)))
      (u t h)
