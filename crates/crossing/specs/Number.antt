-- The C interface's one way of saying an answer: the value, 0 or more, of a call that is answered; the refusal's number with a minus sign.
use Rattle.std.specs.Prelude.{ℕ, zero, suc, ◌/◌, ◌%◌, ◌≤◌, ℤ, pos, negsuc, neg_ℤ}
use Rattle.fleet.specs.declared.Answer.{Answer}
use Rattle.fleet.specs.declared.Answer.TheVariants.{Done, Refused}
use Rattle.occurrence.specs.declared.Placement.{Placement}
use Rattle.occurrence.specs.declared.Placement.TheVariants as placement
use Rattle.listing.specs.declared.Reply.{Reply}
use Rattle.listing.specs.declared.Reply.TheVariants as reply
use Rattle.filling.specs.Filling.{number_for}

unfoldable pub number_of : Answer → ℤ
number_of (Done value) = pos value
number_of (Refused number) = neg_ℤ (pos number)

-- The largest value that a number of 64 bits with a sign holds. No value of a call is larger.
abbrev pub most_value : ℕ
most_value = 9223372036854775807

abbrev pub Fitting : Answer → Type 0
Fitting (Done value) = value ≤ most_value
Fitting (Refused number) = Unit {0}

-- A placing: the number of its nodes, and 0 for no.
unfoldable pub placement_answer : Placement → Answer
placement_answer (placement.Placed nodes) = Done nodes
placement_answer placement.Nowhere = Done 0
placement_answer (placement.Refused number) = Refused number

-- A form: 100 times its support and the number of its nodes (`number_for`); 0 at end.
unfoldable pub reply_answer : Reply → Answer
reply_answer (reply.Form nodes support) = Done (number_for nodes support)
reply_answer reply.End = Done 0
reply_answer (reply.Refused number) = Refused number

-- What a caller reads from a number. That it is the answer, whatever the call was given, is `read_told` and the like (capi/specs/Claims).
unfoldable pub told_answer : ℤ → Answer
told_answer (pos value) = Done value
told_answer (negsuc n) = Refused (suc n)

unfoldable pub told_placement : ℤ → Placement
told_placement (pos zero) = placement.Nowhere
told_placement (pos (suc n)) = placement.Placed (suc n)
told_placement (negsuc n) = placement.Refused (suc n)

unfoldable pub told_reply : ℤ → Reply
told_reply (pos zero) = reply.End
told_reply (pos (suc n)) = reply.Form (suc n % 100) (suc n / 100)
told_reply (negsuc n) = reply.Refused (suc n)
