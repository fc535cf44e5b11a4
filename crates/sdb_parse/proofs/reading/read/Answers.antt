use Rattle.std.proofs.Common.{◌≡◌, List, ℕ, All, IsUtf8, sym, subst}
use Rattle.sdb_parse.specs.Terms.{IsPiece, terms_of}
use Rattle.sdb_parse.proofs.PieceLemmas.{are_pieces}
use Rattle.sdb_parse.proofs.ReadLemmas.{cut_fails, none_read, not_bad, not_open, not_lacking}
use Rattle.sdb_parse.proofs.reading.read.Goals as goal

pub returns-in-Err-BadByte-clause-none : goal.returns-in-Err-BadByte-clause-none
returns-in-Err-BadByte-clause-none c = λ _ s r.
    cut_fails c.args.text.now s c.in-Err-BadByte.field-0 (c.in-Err-BadByte.ensures.cut (λ e. not_bad c.in-Err-BadByte.field-0-0 c.in-Err-BadByte.field-0 c.in-Err-BadByte.field-0-is e)) r

pub returns-in-Err-Unclosed-clause-none : goal.returns-in-Err-Unclosed-clause-none
returns-in-Err-Unclosed-clause-none c = λ _ s r.
    cut_fails c.args.text.now s c.in-Err-Unclosed.field-0 (c.in-Err-Unclosed.ensures.cut (λ e. not_open c.in-Err-Unclosed.field-0-0 c.in-Err-Unclosed.field-0 c.in-Err-Unclosed.field-0-is e)) r

pub terms-requires : goal.terms-requires
terms-requires c =
    subst (λ (text : List ℕ). All (IsPiece text) c.in-Ok.tokens) (sym c.as_str.ensures.value)
    (are_pieces c.args.text.now c.in-Ok.tokens (subst IsUtf8 c.as_str.ensures.value c.as_str.utf8) (c.in-Ok.ensures.cut (λ e. not_lacking c.in-Ok.tokens e)))

pub returns-clause-none : goal.returns-clause-none
returns-clause-none c =
    let start : c.in_ok-cursor.cursor ≡ terms_of c.args.text.now c.in-Ok.tokens =
    subst (λ (text : List ℕ). c.in_ok-cursor.cursor ≡ terms_of text c.in-Ok.tokens) c.as_str.ensures.value c.in_ok-cursor.ensures in
    none_read c.args.text.now c.in-Ok.tokens c.in_ok-cursor.cursor c.read_select.new.cursor c.read_select.result (c.in-Ok.ensures.cut (λ e. not_lacking c.in-Ok.tokens e)) start c.read_select.ensures
