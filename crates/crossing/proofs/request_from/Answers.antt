use Rattle.crossing.proofs.request_from.Goals as goal

pub returns : goal.returns
returns c = λ i. record { threshold = c.field.ensures i; bound = c.field-2.ensures i; profile = c.field-3.ensures i }
