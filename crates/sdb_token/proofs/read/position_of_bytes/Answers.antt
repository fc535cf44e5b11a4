use Rattle.std.proofs.Common.{inr, Ok, ok_or, sym, ◌∙◌, ap}
use Rattle.sdb_tables.specs.declared.refusal.Refusal.TheVariants.{InvalidNextToken}
use Rattle.sdb_token.specs.Reading.{position_of}
use Rattle.sdb_token.proofs.read.position_of_bytes.Goals as goal

pub returns-in_default : goal.returns-in_default
returns-in_default c = inr (ap (λ found. ok_or found InvalidNextToken) c.in_default.ensures)

pub returns : goal.returns
returns c = ap (λ found. ok_or found InvalidNextToken) c.in-Some.ensures ∙ (λ k. Ok (position_of (sym c.in_ok-key.ensures k, sym c.in_ok-name.ensures k)))
