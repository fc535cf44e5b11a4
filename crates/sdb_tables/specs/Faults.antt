-- The fault table: what each refusal is answered with.
use Rattle.std.specs.Prelude.{ℕ, List, [], ◌∷◌, map, codes, slice_index_or, ◌==◌, IsTrue}
use Rattle.std.specs.List.{list_any}
use Rattle.sdb_tables.specs.declared.refusal.Refusal.{Refusal}
use Rattle.sdb_tables.specs.declared.refusal.Refusal.TheVariants.{InvalidHttpRequest, URITooLong, RequestTooLong, InvalidParameterValue, InvalidParameterCombination, MissingParameter, InvalidAction, NoSuchVersion, AuthMissingFailure, AuthFailure, RequestExpired, SignatureDoesNotMatch, AccessFailure, NoSuchDomain, NumberDomainsExceeded, NumberDomainAttributesExceeded, NumberDomainBytesExceeded, NumberItemAttributesExceeded, NumberSubmittedAttributesExceeded, NumberSubmittedItemsExceeded, DuplicateItemName, ConditionalCheckFailed, AttributeDoesNotExist, MultiValuedAttribute, IncompleteExpectedExpression, ExistsAndExpectedValue, MultipleExpectedNames, InvalidQueryExpression, InvalidNumberPredicates, InvalidNumberValueTests, InvalidSortExpression, TooManyRequestedAttributes, InvalidNextToken, ServiceUnavailable, OutOfMemory}
use Rattle.sdb_tables.specs.declared.faults.FaultRow.{FaultRow}

-- a row as contracts see it: the code, the status of the response, and the message for people
pub record Fault : Type 0 where
  pub code : List ℕ
  pub status : ℕ
  pub message : List ℕ

-- the row that a value of the program holds
abbrev pub seen : FaultRow → Fault
seen row = record { code = row.code.now; status = row.status; message = row.message.now }

-- The table. Its rows don't stand in the order in which refusals are looked for, which is: 1 message, 2 form, 3 action,
-- 4 version, 5 signature, 6 access, 7 fields row by row, then lists, expectation, Select expression and token,
-- 8 domain, 9 expectation against the item, 10 limits. A missing field can so come before a wrong one, and after it.
unfoldable pub faults : List Fault
faults =
    record { code = codes "InvalidHttpRequest"; status = 400; message = codes "The HTTP request is invalid." }
    ∷
    record { code = codes "URITooLong"; status = 414; message = codes "The request head is too long." }
    ∷
    record { code = codes "RequestTooLong"; status = 413; message = codes "The request body is too long." }
    ∷
    record { code = codes "InvalidParameterValue"; status = 400; message = codes "The value of a parameter is invalid." }
    ∷
    record { code = codes "InvalidParameterCombination"; status = 400; message = codes "The parameters do not go together." }
    ∷
    record { code = codes "MissingParameter"; status = 400; message = codes "A required parameter is missing." }
    ∷
    record { code = codes "InvalidAction"; status = 400; message = codes "The action is not valid." }
    ∷
    record { code = codes "NoSuchVersion"; status = 400; message = codes "The specified version does not exist." }
    ∷
    record { code = codes "AuthMissingFailure"; status = 403; message = codes "Authentication parameters are missing." }
    ∷
    record { code = codes "AuthFailure"; status = 403; message = codes "The access key is not known." }
    ∷
    record { code = codes "RequestExpired"; status = 400; message = codes "The request has expired." }
    ∷
    record { code = codes "SignatureDoesNotMatch"; status = 403; message = codes "The signature does not match." }
    ∷
    record { code = codes "AccessFailure"; status = 403; message = codes "Access to the resource is denied." }
    ∷
    record { code = codes "NoSuchDomain"; status = 400; message = codes "The specified domain does not exist." }
    ∷
    record { code = codes "NumberDomainsExceeded"; status = 409; message = codes "The account has too many domains." }
    ∷
    record { code = codes "NumberDomainAttributesExceeded"; status = 409; message = codes "The domain has too many attributes." }
    ∷
    record { code = codes "NumberDomainBytesExceeded"; status = 409; message = codes "The domain or account has too many bytes." }
    ∷
    record { code = codes "NumberItemAttributesExceeded"; status = 409; message = codes "The item has too many attributes." }
    ∷
    record { code = codes "NumberSubmittedAttributesExceeded"; status = 409; message = codes "The request has too many attributes." }
    ∷
    record { code = codes "NumberSubmittedItemsExceeded"; status = 409; message = codes "The request has too many items." }
    ∷
    record { code = codes "DuplicateItemName"; status = 400; message = codes "An item is named twice." }
    ∷
    record { code = codes "ConditionalCheckFailed"; status = 409; message = codes "The conditional check failed." }
    ∷
    record { code = codes "AttributeDoesNotExist"; status = 404; message = codes "The expected attribute does not exist." }
    ∷
    record { code = codes "MultiValuedAttribute"; status = 409; message = codes "The expected attribute has several values." }
    ∷
    record { code = codes "IncompleteExpectedExpression"; status = 400; message = codes "The expectation is incomplete." }
    ∷
    record { code = codes "ExistsAndExpectedValue"; status = 400; message = codes "Exists=false has no value." }
    ∷
    record { code = codes "MultipleExpectedNames"; status = 400; message = codes "Only one expectation is allowed." }
    ∷
    record { code = codes "InvalidQueryExpression"; status = 400; message = codes "The query expression is not valid." }
    ∷
    record { code = codes "InvalidNumberPredicates"; status = 400; message = codes "There are too many predicates." }
    ∷
    record { code = codes "InvalidNumberValueTests"; status = 400; message = codes "There are too many value tests." }
    ∷
    record { code = codes "InvalidSortExpression"; status = 400; message = codes "The sort attribute is not in a predicate." }
    ∷
    record { code = codes "TooManyRequestedAttributes"; status = 400; message = codes "Too many attributes are requested." }
    ∷
    record { code = codes "InvalidNextToken"; status = 400; message = codes "The token is not valid." }
    ∷
    record { code = codes "ServiceUnavailable"; status = 503; message = codes "The store could not be written." }
    ∷
    record { code = codes "OutOfMemory"; status = 500; message = codes "There is not enough memory." }
    ∷
    []

-- where a refusal stands in the table, counted from 0
abbrev pub place_of : Refusal → ℕ
place_of InvalidHttpRequest = 0
place_of URITooLong = 1
place_of RequestTooLong = 2
place_of InvalidParameterValue = 3
place_of InvalidParameterCombination = 4
place_of MissingParameter = 5
place_of InvalidAction = 6
place_of NoSuchVersion = 7
place_of AuthMissingFailure = 8
place_of AuthFailure = 9
place_of (RequestExpired _ _) = 10
place_of SignatureDoesNotMatch = 11
place_of AccessFailure = 12
place_of NoSuchDomain = 13
place_of (NumberDomainsExceeded _) = 14
place_of (NumberDomainAttributesExceeded _) = 15
place_of (NumberDomainBytesExceeded _) = 16
place_of (NumberItemAttributesExceeded _) = 17
place_of (NumberSubmittedAttributesExceeded _) = 18
place_of (NumberSubmittedItemsExceeded _) = 19
place_of DuplicateItemName = 20
place_of ConditionalCheckFailed = 21
place_of AttributeDoesNotExist = 22
place_of MultiValuedAttribute = 23
place_of IncompleteExpectedExpression = 24
place_of ExistsAndExpectedValue = 25
place_of MultipleExpectedNames = 26
place_of InvalidQueryExpression = 27
place_of InvalidNumberPredicates = 28
place_of InvalidNumberValueTests = 29
place_of InvalidSortExpression = 30
place_of TooManyRequestedAttributes = 31
place_of InvalidNextToken = 32
place_of ServiceUnavailable = 33
place_of OutOfMemory = 34

-- past the end of the table
abbrev pub no_fault : Fault
no_fault = record { code = []; status = 0; message = [] }

-- the row of a refusal
unfoldable pub fault_of : Refusal → Fault
fault_of refusal = slice_index_or faults (place_of refusal) no_fault

-- the name of a refusal
unfoldable pub name_of : Refusal → List ℕ
name_of InvalidHttpRequest = codes "InvalidHttpRequest"
name_of URITooLong = codes "URITooLong"
name_of RequestTooLong = codes "RequestTooLong"
name_of InvalidParameterValue = codes "InvalidParameterValue"
name_of InvalidParameterCombination = codes "InvalidParameterCombination"
name_of MissingParameter = codes "MissingParameter"
name_of InvalidAction = codes "InvalidAction"
name_of NoSuchVersion = codes "NoSuchVersion"
name_of AuthMissingFailure = codes "AuthMissingFailure"
name_of AuthFailure = codes "AuthFailure"
name_of (RequestExpired _ _) = codes "RequestExpired"
name_of SignatureDoesNotMatch = codes "SignatureDoesNotMatch"
name_of AccessFailure = codes "AccessFailure"
name_of NoSuchDomain = codes "NoSuchDomain"
name_of (NumberDomainsExceeded _) = codes "NumberDomainsExceeded"
name_of (NumberDomainAttributesExceeded _) = codes "NumberDomainAttributesExceeded"
name_of (NumberDomainBytesExceeded _) = codes "NumberDomainBytesExceeded"
name_of (NumberItemAttributesExceeded _) = codes "NumberItemAttributesExceeded"
name_of (NumberSubmittedAttributesExceeded _) = codes "NumberSubmittedAttributesExceeded"
name_of (NumberSubmittedItemsExceeded _) = codes "NumberSubmittedItemsExceeded"
name_of DuplicateItemName = codes "DuplicateItemName"
name_of ConditionalCheckFailed = codes "ConditionalCheckFailed"
name_of AttributeDoesNotExist = codes "AttributeDoesNotExist"
name_of MultiValuedAttribute = codes "MultiValuedAttribute"
name_of IncompleteExpectedExpression = codes "IncompleteExpectedExpression"
name_of ExistsAndExpectedValue = codes "ExistsAndExpectedValue"
name_of MultipleExpectedNames = codes "MultipleExpectedNames"
name_of InvalidQueryExpression = codes "InvalidQueryExpression"
name_of InvalidNumberPredicates = codes "InvalidNumberPredicates"
name_of InvalidNumberValueTests = codes "InvalidNumberValueTests"
name_of InvalidSortExpression = codes "InvalidSortExpression"
name_of TooManyRequestedAttributes = codes "TooManyRequestedAttributes"
name_of InvalidNextToken = codes "InvalidNextToken"
name_of ServiceUnavailable = codes "ServiceUnavailable"
name_of OutOfMemory = codes "OutOfMemory"

-- the statuses of responses: 200, and those of the table
abbrev pub answer_statuses : List ℕ
answer_statuses = 200 ∷ 400 ∷ 403 ∷ 404 ∷ 409 ∷ 413 ∷ 414 ∷ 500 ∷ 503 ∷ []

-- a status that responses have
abbrev pub IsAnswerStatus : ℕ → Type 0
IsAnswerStatus status = IsTrue (list_any (λ s. s == status) answer_statuses)

-- the codes, in the order of the table
abbrev pub fault_codes : List (List ℕ)
fault_codes = map (λ row. row.code) faults
