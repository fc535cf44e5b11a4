-- The bytes of a response (RFC 9112, section 4).
use Rattle.std.specs.Prelude.{ℕ, List, [], ◌++◌, Bool, length, codes, decimal, unwrap_or, if◌then◌else◌}
use Rattle.http.specs.StatusCode.{code_digits, reason_phrase}

-- the version with which a response begins
unfoldable pub version_word : List ℕ
version_word = codes "HTTP/1.1 "

-- what stands between status and phrase
unfoldable pub space_word : List ℕ
space_word = codes " "

-- the type of the body, and what stands before its length
unfoldable pub type_lines : List ℕ
type_lines = codes "\r\nContent-Type: text/xml\r\nContent-Length: "

-- the line that says that the connection is closed
unfoldable pub close_line : List ℕ
close_line = codes "\r\nConnection: close"

-- the end of the last line and the blank line
unfoldable pub head_end : List ℕ
head_end = codes "\r\n\r\n"

-- the reason phrase of a status
unfoldable pub phrase_of : ℕ → List ℕ
phrase_of status = unwrap_or (reason_phrase status) []

-- the header line of a connection that is closed
abbrev pub close_lines : Bool → List ℕ
close_lines close = if close then close_line else []

-- the status line, the type and the length of the body, the wish to close, and the body
abbrev pub response_text : ℕ → List ℕ → Bool → List ℕ
response_text status body close =
    version_word ++ code_digits status ++ space_word ++ phrase_of status ++ type_lines ++ decimal (length body)
    ++ close_lines close ++ head_end ++ body
