-- The proof of format::fields::FieldsIterator::next, by answers to its goals.
use Rattle.std.proofs.Common.{refl, arith}
use Rattle.format.specs.FieldsLaws.{fields_places, fields_rest}
use Rattle.format.proofs.fields.FieldsIterator.next.Goals as goal

pub field_end-self-requires : goal.field_end-self-requires
field_end-self-requires c = omega (arith, fields_places c.if-from-self.false refl c.requires)

pub returns-clause-goes : goal.returns-clause-goes
returns-clause-goes c =
    let left = fields_rest c.if-from-self.false c.field_end-self.ensures c.requires in
    record {
      on = λ _. (left, tt, omega (arith, fields_places c.if-from-self.false c.field_end-self.ensures c.requires));
      keeps = left;
      rests = λ _. tt;
    }
