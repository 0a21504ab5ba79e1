-- One lent area as a list of bytes: what stands in it, and what a writer did to it. A writer appends at d and has an
-- absolute end, `stop`; what it reads stands below d.
use Rattle.std.specs.Prelude.{◌≡◌, List, [], ◌∷◌, ◌++◌, ℕ, ◌+◌, ◌*◌, ◌/◌, ◌%◌, ◌≤◌, ◌<◌, length, take, drop, get_or, Result, Ok, Err}
use Rattle.std.proofs.Math.Seq.{slice}
use Rattle.areas.specs.declared.area.TooLarge.{TooLarge}
use Rattle.areas.specs.declared.span.Span.{Span}
use Rattle.spec_trees.specs.Bytes.{field_bytes}

-- a writer's answer: where the next byte goes, or that the bytes did not fit
abbrev pub Out : Type 0
Out = Result ℕ TooLarge

abbrev pub too_large : TooLarge
too_large = record {}

-- xs stands in w from p to e
pub record Is (w : List ℕ) (p e : ℕ) (xs : List ℕ) : Type 0 where
  pub lies : slice p e w ≡ xs
  pub ends : e ≡ p + length xs
  pub inside : e ≤ length w

-- places as values
abbrev pub span : ℕ → ℕ → Span
span p e = record { from = p; to = e }

-- xs stands in w at a place
abbrev pub IsAt : List ℕ → Span → List ℕ → Type 0
IsAt w at xs = Is w at.from at.to xs

-- w became v: xs stands behind the first d bytes, up to e, which does not pass stop; from top on all is as it was
pub record Fitted (w v : List ℕ) (d stop top : ℕ) (xs : List ℕ) (e : ℕ) : Type 0 where
  pub ends : e ≡ d + length xs
  pub room : e ≤ stop
  pub below : take e v ≡ take d w ++ xs
  pub beyond : drop top v ≡ drop top w

-- w became v: xs would pass stop; below d and from top on all is as it was
pub record Failed (w v : List ℕ) (d stop top : ℕ) (xs : List ℕ) : Type 0 where
  pub over : stop < d + length xs
  pub below : take d v ≡ take d w
  pub beyond : drop top v ≡ drop top w

-- What a writer of xs at d with the end `stop` did: xs stands at d, and all else is as it was; or it is too large,
-- just if xs passes stop, and all outside d to stop is as it was.
pub record Wrote (w v : List ℕ) (d stop : ℕ) (xs : List ℕ) (r : Out) : Type 0 where
  pub fits : (e : ℕ) → r ≡ Ok e → Fitted w v d stop e xs e
  pub large : r ≡ Err too_large → Failed w v d stop stop xs

-- where a writer in a lent tail ended, said of the whole
abbrev pub shift : ℕ → Out → Out
shift at (Ok e) = Ok (at + e)
shift at (Err _) = Err too_large

-- the three bytes before a content of n bytes
abbrev pub head_bytes : ℕ → ℕ → List ℕ
head_bytes tag n = tag ∷ n / 256 ∷ n % 256 ∷ []

-- where the field at p ends
abbrev pub field_end : List ℕ → ℕ → ℕ
field_end w p = p + 3 + (get_or w (p + 1) 0 * 256 + get_or w (p + 2) 0)

-- a content that ends where r says can get a head at d
abbrev pub Finishable : List ℕ → ℕ → Out → Type 0
Finishable w d r = (e : ℕ) → r ≡ Ok e → (d + 3 ≤ e) × (e ≤ length w)

-- whatever content was written behind the head, the field is written
abbrev pub Finished : (w v : List ℕ) (d tag : ℕ) → Out → Out → Type 0
Finished w v d tag r q = (u : List ℕ) (stop : ℕ) (c : List ℕ) → d + 3 ≤ length u
    → Wrote u w (d + 3) stop c r → Wrote u v d stop (field_bytes (tag, c)) q
