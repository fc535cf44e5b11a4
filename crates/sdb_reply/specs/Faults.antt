-- Answers that take no memory.
use Rattle.std.specs.Prelude.{ℕ, List, Bool, ◌++◌, decimal}
use Rattle.http.specs.StatusCode.{code_digits}
use Rattle.sdb_http.specs.Responses.{close_lines, head_end, phrase_of, response_text, space_word, type_lines, version_word}
use Rattle.sdb_tables.specs.declared.refusal.Refusal.{Refusal}
use Rattle.sdb_reply.specs.declared.outcome.Outcome.TheVariants.{Refused}
use Rattle.sdb_reply.specs.declared.outcome.RequestId.{RequestId}
use Rattle.sdb_reply.specs.Bodies.{body_text, refusal_units, status_of}

-- the body of a refusal with its units
abbrev pub refusal_text : Refusal → RequestId → List ℕ
refusal_text refusal id = body_text (Refused refusal) id refusal_units

-- the response to a refused request: that of its body
abbrev pub fault_text : Refusal → RequestId → Bool → List ℕ
fault_text refusal id close = response_text (status_of (Refused refusal)) (refusal_text refusal id) close

-- what stands before the body of a response
abbrev pub head_text : (status length : ℕ) → Bool → List ℕ
head_text status length close =
    version_word ++ code_digits status ++ space_word ++ phrase_of status ++ type_lines ++ decimal length ++ close_lines close ++ head_end
