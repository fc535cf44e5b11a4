use Rattle.std.proofs.Common.{◌≡◌, ◌++◌, Ok, Err, sym, ◌∙◌, ap, subst}
use Rattle.std.proofs.lemmas.List.{take-append-drop}
use Rattle.sdb_format.specs.declared.fault.FormatFault.TheVariants.{Bad}
use Rattle.sdb_format.specs.Letters.{letters_at}
use Rattle.sdb_format.proofs.LetterLaws.{letters_there, letters_bad}
use Rattle.sdb_format.proofs.letters.read_letters.Goals as goal

pub returns-in-Ok-clause-ok : goal.returns-in-Ok-clause-ok
returns-in-Ok-clause-ok c =
    let n = c.args.count in
    let front = c.split_at.result.0.now in
    let rest = c.split_at.result.1.now in
    let whole : front ++ rest ≡ c.args.bytes.now = (λ k. c.split_at.ensures.front k ++ c.split_at.ensures.back k) ∙ take-append-drop n c.args.bytes.now in
    subst (λ bs. letters_at n bs ≡ Ok (c.in-Ok.text.now, rest)) whole
    (letters_there n front rest c.split_at.ensures.front_len c.in-Ok.ensures.cases.1 ∙ ap (λ t. Ok (t, rest)) (sym c.in-Ok.ensures.cases.0))

pub returns-in-Err-clause-err : goal.returns-in-Err-clause-err
returns-in-Err-clause-err c =
    let n = c.args.count in
    let front = c.split_at.result.0.now in
    let rest = c.split_at.result.1.now in
    let whole : front ++ rest ≡ c.args.bytes.now = (λ k. c.split_at.ensures.front k ++ c.split_at.ensures.back k) ∙ take-append-drop n c.args.bytes.now in
    subst (λ bs. letters_at n bs ≡ Err Bad) whole (letters_bad n front rest c.split_at.ensures.front_len c.in-Err.ensures.cases.0)
