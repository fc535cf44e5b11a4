use Rattle.std.proofs.Common.{ap, ◌∙◌, sym, subst, IsUtf8}
use Rattle.std.proofs.lemmas.Str.{IsUtf8-string_bytes}
use Rattle.sdb_form.proofs.Plains.{decode-plain}
use Rattle.sdb_form.proofs.text.text_of.Goals as goal

pub returns-then-is_plain : goal.returns-then-is_plain
returns-then-is_plain c = rw (decode-plain c.args.raw.now (sym c.is_plain.ensures ∙ c.if-is_plain.true)) c.copied_text.ensures

pub returns-in-Ok : goal.returns-in-Ok
returns-in-Ok c =
    let same = ap (λ v. v.items) c.in-Ok.ensures.ok ∙ c.in_ok-decoded.ensures in
    (c.from_string.ensures ∙ same, subst IsUtf8 same (IsUtf8-string_bytes c.in-Ok.text))
