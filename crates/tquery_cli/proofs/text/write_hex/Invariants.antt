use Rattle.std.proofs.Common.{◌≡◌, ◌+◌, ◌*◌, ◌≤◌, length}
use Rattle.tquery_cli.specs.TextLaws.{HexWritten}
use Rattle.tquery_cli.proofs.text.write_hex.Given as goal

abbrev pub invariant-loop-i : goal.invariant-loop-i
invariant-loop-i l =
    (l.i ≤ length l.bytes) × (2 * length l.bytes + 1 ≤ length l.text) × (length l.text ≡ length l.initial.text) ×
    HexWritten l.text l.bytes l.i
