-- The requests of a workload, as they are sent.
use Rattle.std.specs.Prelude.{ℕ, ◌/◌, ◌%◌, true, false, List, [], ◌∷◌, ◌++◌, codes, decimal}
use Rattle.sdb_base.specs.declared.verb.Verb.TheVariants.{Get as GetVerb}
use Rattle.sdb_base.specs.Pairs.{NamedValues}
use Rattle.sdb_sign.specs.Canon.{canonical_query, escaped, text_to_sign}
use Rattle.sdb_sign.specs.Signing.{signature_of}
use Rattle.sdb_script.specs.declared.operation.Entry.{Entry}
use Rattle.sdb_script.specs.declared.operation.Operation.{Operation}
use Rattle.sdb_script.specs.declared.operation.Operation.TheVariants.{Create, Put, Delete, Get, Select}
use Rattle.sdb_script.specs.declared.operation.Place.{Place}

-- ---- names and values

-- four digits
abbrev pub four_digits : ℕ → List ℕ
four_digits n = decimal (n / 1000 % 10) ++ decimal (n / 100 % 10) ++ decimal (n / 10 % 10) ++ decimal (n % 10)

-- five digits
abbrev pub five_digits : ℕ → List ℕ
five_digits n = decimal (n / 10000 % 10) ++ decimal (n / 1000 % 10) ++ decimal (n / 100 % 10) ++ decimal (n / 10 % 10) ++ decimal (n % 10)

-- `bench` and a digit
unfoldable pub domain_name : ℕ → List ℕ
domain_name domain = codes "bench" ++ decimal domain

-- `i` and four digits
unfoldable pub item_name : ℕ → List ℕ
item_name item = codes "i" ++ four_digits item

-- `a` and a digit
unfoldable pub attribute_name : ℕ → List ℕ
attribute_name attribute = codes "a" ++ decimal attribute

-- five digits
unfoldable pub value_text : ℕ → List ℕ
value_text value = five_digits value

-- the expression that asks for a domain's items with such a value or a greater one
unfoldable pub expression : ℕ → Entry → List ℕ
expression domain entry =
    codes "select * from " ++ domain_name domain ++ codes " where " ++ attribute_name entry.attribute ++ codes " >= '" ++ value_text entry.value ++ codes "' limit 20"

-- ---- parameters

-- the parameters of each request, without the signature
abbrev pub common : List ℕ → NamedValues
common action =
    (codes "AWSAccessKeyId", codes "BENCHKEY") ∷ (codes "Action", action) ∷ (codes "SignatureMethod", codes "HmacSHA256") ∷ (codes "SignatureVersion", codes "2")
    ∷ (codes "Timestamp", codes "2010-01-01T00:00:00Z") ∷ (codes "Version", codes "2009-04-15") ∷ []

-- the domain and the item
abbrev pub place_params : Place → NamedValues
place_params place = (codes "DomainName", domain_name place.domain) ∷ (codes "ItemName", item_name place.item) ∷ []

-- the pair that is put
abbrev pub entry_params : Entry → NamedValues
entry_params entry = (codes "Attribute.1.Name", attribute_name entry.attribute) ∷ (codes "Attribute.1.Value", value_text entry.value) ∷ []

-- a put that takes the place of the attribute's values
abbrev pub replace_params : NamedValues
replace_params = (codes "Attribute.1.Replace", codes "true") ∷ []

-- the domain that is made
abbrev pub domain_params : ℕ → NamedValues
domain_params domain = (codes "DomainName", domain_name domain) ∷ []

-- the expression of a Select
abbrev pub select_params : ℕ → Entry → NamedValues
select_params domain entry = (codes "SelectExpression", expression domain entry) ∷ []

-- the parameters that a request has beside those of each
abbrev pub own_params : Operation → NamedValues
own_params (Create domain) = domain_params domain
own_params (Put place entry false) = place_params place ++ entry_params entry
own_params (Put place entry true) = place_params place ++ entry_params entry ++ replace_params
own_params (Delete place) = place_params place
own_params (Get place) = place_params place
own_params (Select domain entry) = select_params domain entry

-- the name of its action
abbrev pub action_of : Operation → List ℕ
action_of (Create domain) = codes "CreateDomain"
action_of (Put place entry replace) = codes "PutAttributes"
action_of (Delete place) = codes "DeleteAttributes"
action_of (Get place) = codes "GetAttributes"
action_of (Select domain entry) = codes "Select"

-- all parameters of a request without the signature
unfoldable pub params_of : Operation → NamedValues
params_of operation = common (action_of operation) ++ own_params operation

-- ---- the request

-- the host to which requests go
abbrev pub host : List ℕ
host = codes "bench"

-- the signature of a request
abbrev pub signature : NamedValues → List ℕ
signature params = signature_of (codes "BENCHSECRET") (text_to_sign GetVerb host params)

-- a request with these parameters, signed
unfoldable pub signed_request : NamedValues → List ℕ
signed_request params =
    codes "GET /?" ++ canonical_query params ++ codes "&Signature=" ++ escaped (signature params) ++ codes " HTTP/1.1\r\nHost: bench\r\n\r\n"

-- the request that asks for an operation
abbrev pub request_of : Operation → List ℕ
request_of operation = signed_request (params_of operation)
