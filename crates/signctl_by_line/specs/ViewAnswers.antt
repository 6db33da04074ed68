-- What a line of `view` is answered: what a service signs of its head, line by line.
use Rattle.std.specs.Prelude.{ℕ, List, [], ◌∷◌, ◌++◌, Option, Result, Ok, Err, map, flat_map, codes, decimal}
use Rattle.sign_request.specs.PlainView.{PlainView, view_query, view_of}
use Rattle.sign_request.specs.Query.{Pair, query_length}
use Rattle.sign_request.specs.declared.head_view.ViewRefusal.{ViewRefusal}
use Rattle.sign_request.specs.declared.head_view.ViewRefusal.TheVariants as refusal
use Rattle.sign_base.specs.declared.head.Head.{Head}
use Rattle.signctl_driver.specs.Command.{Command}
use Rattle.signctl_by_line.specs.LineByLine.{line_by_line}
use Rattle.line_words.specs.Bytes.{space, equals_sign}
use Rattle.line_words.specs.Escapes.{with_escapes, is_plain, is_pair_plain}
use Rattle.line_words.specs.Words.{with_newline, line_of}
use Rattle.line_words.specs.declared.read_error.LineError.{LineError}
use Rattle.signctl_by_line.specs.ViewGrammar.{head_of_line}

-- a name, and a text after one space
abbrev pub named_line : List ℕ → List ℕ → List ℕ
named_line name text = name ++ space ∷ text

-- the lines of the method and the target, each part as it is
abbrev pub target_lines : PlainView → List (List ℕ)
target_lines view =
    named_line (codes "method") view.method
    ∷ named_line (codes "scheme") view.scheme
    ∷ named_line (codes "authority") view.authority
    ∷ named_line (codes "path") view.path
    ∷ []

-- a key and its value as a word, in which the only `=` stands between them
abbrev pub pair_word : Pair → List ℕ
pair_word pair = with_escapes is_pair_plain pair.0 ++ equals_sign ∷ with_escapes is_pair_plain pair.1

-- the line of a pair of the query
abbrev pub pair_line : Pair → List ℕ
pair_line pair = named_line (codes "pair") (pair_word pair)

-- the words after `query`: none where the text is empty
abbrev pub query_words : List ℕ → List (List ℕ)
query_words [] = []
query_words (b ∷ rest) = with_escapes is_plain (b ∷ rest) ∷ []

-- the lines of the whole query and of the names
abbrev pub summary_lines : PlainView → List (List ℕ)
summary_lines view =
    named_line (codes "size") (decimal (query_length view.pairs))
    ∷ line_of (codes "names" ∷ view.names)
    ∷ line_of (codes "query" ∷ query_words (view_query view))
    ∷ []

-- the lines of a view
abbrev pub view_lines : PlainView → List (List ℕ)
view_lines view = target_lines view ++ (map pair_line view.pairs ++ summary_lines view)

-- why a head has no view. Where an allocation fails nothing is answered
abbrev pub refusal_line : ViewRefusal → List ℕ
refusal_line refusal.Head = codes "refused head"
refusal_line refusal.Authority = codes "refused authority"
refusal_line refusal.OutOfMemory = []

-- the lines of a head that has this view, or none
abbrev pub shown_lines : Result PlainView ViewRefusal → List (List ℕ)
shown_lines (Ok view) = view_lines view
shown_lines (Err why) = refusal_line why ∷ []

-- the answer to a head
abbrev pub view_answer : Head → List ℕ
view_answer head = flat_map with_newline (shown_lines (view_of head))

-- the command `view`
abbrev pub view_command : Command (Option Head) LineError
view_command = line_by_line head_of_line view_answer
