-- The limits as the code's record of them: `limits::all` answers this, which ties each constant of the code to its
-- number.
use Rattle.tracer_lines.specs.declared.limits.MessageNamed.{MessageNamed}
use Rattle.spec_tracer.specs.Limits.{message_max, name_max, value_max, whole_max}

abbrev pub named : MessageNamed
named = record { message = message_max; name = name_max; value = value_max; whole = whole_max }
