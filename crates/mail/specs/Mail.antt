-- The mailboxes of a net with mail (document 01, "Stations with mail"), in the words that a caller lends: for each sender a set of the
-- receivers to which a start waits, a set of those to which an answer waits, and what the answers bring: a word of missing numbers, and a sum
-- for each class. Every list of words is one.
use Rattle.std.specs.Prelude.{Bool, true, false, cond, List, ℕ, zero, suc, ◌+◌, ◌*◌, get_or, set, replicate}
use Rattle.bitset.specs.Set.{member, union, minus, put}
use Rattle.aggregate.specs.declared.Config.{Config}
use Rattle.aggregate.specs.declared.Aggregate.{Aggregate}
use Rattle.aggregate.specs.Aggregate.{cell, bounded, from_words, missing_word}
use Rattle.mail.specs.declared.Message.{Message}
use Rattle.mail.specs.declared.Message.TheVariants.{Start, Answer}
use Rattle.mail.specs.declared.Mailbox.{Mailbox}
use Rattle.mail.specs.declared.Mailbox.TheVariants.{Empty, Full}

-- "posted sums below 2^62" (Causes and numbers, form): a message, and what it brings if it is an answer
abbrev pub message_bounded : Config → Message → Aggregate → Bool
message_bounded t Start v = true
message_bounded t Answer v = bounded t v

-- an empty mailbox has no sum
abbrev pub mailbox_bounded : Config → Mailbox → Aggregate → Bool
mailbox_bounded t Empty v = true
mailbox_bounded t (Full m) v = message_bounded t m v

-- the receivers to which a start of s waits
abbrev pub starts_of : List ℕ → ℕ → ℕ
starts_of boxes s = get_or boxes s 0

-- the receivers to which an answer of s waits
abbrev pub answers_of : List ℕ → ℕ → ℕ
answers_of boxes s = get_or boxes (64 + s) 0

-- the place of the missing numbers of an answer from s to r
abbrev pub missing_place : ℕ → ℕ → ℕ
missing_place s r = 128 + s * 64 + r

-- the place of its sum of class j
abbrev pub sum_place : ℕ → ℕ → ℕ → ℕ
sum_place j s r = 4224 + 4096 * j + s * 64 + r

-- what the mailbox from s to r holds: "empty or holding a start or an answer with its sum". Where both wait it is the start.
unfoldable pub box_at : List ℕ → ℕ → ℕ → Mailbox
box_at boxes s r = cond (member r (starts_of boxes s)) (Full Start) (cond (member r (answers_of boxes s)) (Full Answer) Empty)

-- and what an answer there brings: "messages hold c sums and c missing numbers" (document 02, request 2). Beside no answer it is not looked at.
unfoldable pub brought_at : Config → List ℕ → ℕ → ℕ → Aggregate
brought_at t boxes s r = from_words t (λ j. get_or boxes (sum_place j s r) 0) (get_or boxes (missing_place s r) 0)

-- the words with other sets for s
abbrev pub with_sets : List ℕ → ℕ → ℕ → ℕ → List ℕ
with_sets boxes s starts answers = set (set boxes s starts) (64 + s) answers

-- the words where a start or an answer waits from s to r just as told
unfoldable pub with_waiting : List ℕ → ℕ → ℕ → Bool → Bool → List ℕ
with_waiting boxes s r start answer = with_sets boxes s (put r start (starts_of boxes s)) (put r answer (answers_of boxes s))

-- the words with the sums of the first n classes of v for an answer from s to r
unfoldable pub with_sums : List ℕ → ℕ → ℕ → Aggregate → ℕ → List ℕ
with_sums boxes s r v zero = boxes
with_sums boxes s r v (suc n) = set (with_sums boxes s r v n) (sum_place n s r) (cell v n).sum

-- the words with an answer from s to r that brings v
unfoldable pub with_answer : List ℕ → ℕ → ℕ → Aggregate → List ℕ
with_answer boxes s r v = with_sums (set (with_waiting boxes s r false true) (missing_place s r) (missing_word v)) s r v 8

-- the words with a message from s to r: "A post replaces what a box held"
unfoldable pub with_message : List ℕ → ℕ → ℕ → Message → Aggregate → List ℕ
with_message boxes s r Start v = with_waiting boxes s r true false
with_message boxes s r Answer v = with_answer boxes s r v

-- the words with b in the mailbox from s to r, and v for what it brings if it is an answer; any other keeps these words
unfoldable pub with_box : List ℕ → ℕ → ℕ → Mailbox → Aggregate → List ℕ
with_box boxes s r Empty v = with_waiting boxes s r false false
with_box boxes s r (Full m) v = with_message boxes s r m v

-- a start posted from s to every station in the set
unfoldable pub starts_posted : List ℕ → ℕ → ℕ → List ℕ
starts_posted boxes s stations = with_sets boxes s (union (starts_of boxes s) stations) (minus (answers_of boxes s) stations)

-- no mail
abbrev pub no_mail : List ℕ
no_mail = replicate 36992 0
