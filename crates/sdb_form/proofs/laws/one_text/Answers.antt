use Rattle.std.proofs.Common.{◌∙◌, sym}
use Rattle.sdb_form.proofs.Decoding.{decoded_only}
use Rattle.sdb_form.proofs.laws.one_text.Goals as goal

pub returns : goal.returns
returns c = λ raw a b x y. decoded_only raw a x ∙ sym (decoded_only raw b y)
