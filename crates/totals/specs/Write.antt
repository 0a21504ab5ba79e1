-- What a writer of a total did.
use Rattle.std.specs.Prelude.{◌≡◌, List, true, ℕ, ℤ}
use Rattle.std.proofs.Math.Option.{Option}
use Rattle.areas.specs.declared.span.Span.{Span}
use Rattle.spec_stages.specs.Totals.{fits_signed, total_given}
use Rattle.data.specs.Value.{Value, WroteFound}
use Rattle.totals.specs.declared.exact.Total.{Total}
use Rattle.totals.specs.Exact.{IsTotal}

-- w became v: what t places was written, whatever total t is, if it fits
abbrev pub WroteTotal : (w v : List ℕ) (room : Span) → Total → Value → Type 0
WroteTotal w v room t r = (x : Option ℤ) → IsTotal t x → fits_signed x ≡ true → WroteFound w v room.from room.to (total_given x) r
