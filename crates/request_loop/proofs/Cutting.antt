-- Inputs that are cut into lines byte by byte.
use Rattle.std.proofs.Common.{◌≡◌, ℕ, ◌<◌, ◌==◌, ◌≢◌, Bool, true, false, List, [], ◌∷◌, ◌++◌, map, length, refl, sym, ap, subst, ◌∙◌, append_assoc, append-nil, IsTrue, if◌then◌else◌, take, get_or, ◌+◌}
use Rattle.std.proofs.lemmas.List.{map-append, take_more}
use Rattle.std.proofs.lemmas.Bool.{ne_eqb}
use Rattle.request_loop.specs.Lines.{LineSeen, seen_of, lines_of, lines_ended, lines_seen, ended_seen, before_first, before_ended}
use Rattle.request_loop.specs.Exchange.{Exchange}
use Rattle.request_loop.specs.Served.{lines_answered}
use Rattle.request_loop.specs.Cut.{has_no_feed, HasBegun, KeepsLine, HoldsPart}

-- a line feed ends the line that has begun
pub lines_of-feed : (line more : List ℕ) → IsTrue (has_no_feed line) → lines_of (line ++ 10 ∷ more) ≡ line ∷ lines_of more
lines_of-feed [] more h = refl
lines_of-feed (b ∷ line) more h =
    elim (b == 10) as (λ t. IsTrue (if t then false else has_no_feed line) → (if t then [] ∷ lines_of (line ++ 10 ∷ more) else before_first b (lines_of (line ++ 10 ∷ more))) ≡ (b ∷ line) ∷ lines_of more) [
      | true ↦ λ h. cc
      | false ↦ λ h. ap (before_first b) (lines_of-feed line more h)
    ] h

pub lines_ended-feed : (line more : List ℕ) → IsTrue (has_no_feed line) → lines_ended (line ++ 10 ∷ more) ≡ line ∷ lines_ended more
lines_ended-feed [] more h = refl
lines_ended-feed (b ∷ line) more h =
    elim (b == 10) as (λ t. IsTrue (if t then false else has_no_feed line) → (if t then [] ∷ lines_ended (line ++ 10 ∷ more) else before_ended b (lines_ended (line ++ 10 ∷ more))) ≡ (b ∷ line) ∷ lines_ended more) [
      | true ↦ λ h. cc
      | false ↦ λ h. ap (before_ended b) (lines_ended-feed line more h)
    ] h

-- without a line feed no line ends
pub lines_ended-open : (line : List ℕ) → IsTrue (has_no_feed line) → lines_ended line ≡ []
lines_ended-open [] h = refl
lines_ended-open (b ∷ line) h =
    elim (b == 10) as (λ t. IsTrue (if t then false else has_no_feed line) → (if t then [] ∷ lines_ended line else before_ended b (lines_ended line)) ≡ []) [
      | true ↦ λ h. cc
      | false ↦ λ h. ap (before_ended b) (lines_ended-open line h)
    ] h

-- without a line feed there is one line, unless there is nothing
pub lines_of-open : (line : List ℕ) → IsTrue (has_no_feed line) → line ≢ [] → lines_of line ≡ line ∷ []
lines_of-open [] h some = absurd (some refl)
lines_of-open (b ∷ []) h some =
    elim (b == 10) as (λ t. IsTrue (if t then false else true) → (if t then [] ∷ [] else before_first b []) ≡ (b ∷ []) ∷ []) [
      | true ↦ λ h. cc
      | false ↦ λ h. refl
    ] h
lines_of-open (b ∷ c ∷ line) h some =
    elim (b == 10) as (λ t. IsTrue (if t then false else has_no_feed (c ∷ line)) → (if t then [] ∷ lines_of (c ∷ line) else before_first b (lines_of (c ∷ line))) ≡ (b ∷ c ∷ line) ∷ []) [
      | true ↦ λ h. cc
      | false ↦ λ h. ap (before_first b) (lines_of-open (c ∷ line) h (λ e. cc))
    ] h

has_no_feed-push : (line : List ℕ) (byte : ℕ) → IsTrue (has_no_feed line) → (byte == 10) ≡ false → IsTrue (has_no_feed (line ++ byte ∷ []))
has_no_feed-push [] byte h n = subst (λ t. IsTrue (if t then false else true)) (sym n) refl
has_no_feed-push (b ∷ line) byte h n =
    elim (b == 10) as (λ t. IsTrue (if t then false else has_no_feed line) → IsTrue (if t then false else has_no_feed (line ++ byte ∷ []))) [
      | true ↦ λ h. cc
      | false ↦ λ h. has_no_feed-push line byte h n
    ] h

-- before the first byte
pub begun-start : HasBegun [] []
begun-start = record { no_feed = refl; ended = λ more. refl; lines = λ more. refl }

-- a byte that is no line feed ends no line
pub lines_ended-byte : (taken line : List ℕ) (byte : ℕ) → byte ≢ 10 → HasBegun taken line → lines_ended (taken ++ byte ∷ []) ≡ lines_ended taken
lines_ended-byte taken line byte n at =
    at.ended (byte ∷ [])
    ∙ (ap (λ lines. lines_ended taken ++ lines) (lines_ended-open (line ++ byte ∷ []) (has_no_feed-push line byte at.no_feed (ne_eqb byte 10 n)))
    ∙ append-nil (lines_ended taken))

-- and belongs to the line that has begun
pub begun-byte : (taken line : List ℕ) (byte : ℕ) → byte ≢ 10 → HasBegun taken line → HasBegun (taken ++ byte ∷ []) (line ++ byte ∷ [])
begun-byte taken line byte n at = record {
  no_feed = has_no_feed-push line byte at.no_feed (ne_eqb byte 10 n);
  ended = λ more. ap lines_ended (append_assoc taken (byte ∷ []) more) ∙ (at.ended (byte ∷ more)
      ∙ (ap (λ bytes. lines_ended taken ++ lines_ended bytes) (sym (append_assoc line (byte ∷ []) more))
      ∙ ap (λ lines. lines ++ lines_ended ((line ++ byte ∷ []) ++ more)) (sym (lines_ended-byte taken line byte n at))));
  lines = λ more. ap lines_of (append_assoc taken (byte ∷ []) more) ∙ (at.lines (byte ∷ more)
      ∙ (ap (λ bytes. lines_ended taken ++ lines_of bytes) (sym (append_assoc line (byte ∷ []) more))
      ∙ ap (λ lines. lines ++ lines_of ((line ++ byte ∷ []) ++ more)) (sym (lines_ended-byte taken line byte n at))));
}

-- a line feed ends the line that has begun
pub lines_ended-begun : (taken line : List ℕ) → HasBegun taken line → lines_ended (taken ++ 10 ∷ []) ≡ lines_ended taken ++ line ∷ []
lines_ended-begun taken line at = at.ended (10 ∷ []) ∙ ap (λ lines. lines_ended taken ++ lines) (lines_ended-feed line [] at.no_feed)

-- and the next line has begun with nothing
pub begun-feed : (taken line : List ℕ) → HasBegun taken line → HasBegun (taken ++ 10 ∷ []) []
begun-feed taken line at = record {
  no_feed = refl;
  ended = λ more. ap lines_ended (append_assoc taken (10 ∷ []) more) ∙ (at.ended (10 ∷ more)
      ∙ (ap (λ lines. lines_ended taken ++ lines) (lines_ended-feed line more at.no_feed)
      ∙ (sym (append_assoc (lines_ended taken) (line ∷ []) (lines_ended more))
      ∙ ap (λ lines. lines ++ lines_ended more) (sym (lines_ended-begun taken line at)))));
  lines = λ more. ap lines_of (append_assoc taken (10 ∷ []) more) ∙ (at.lines (10 ∷ more)
      ∙ (ap (λ lines. lines_ended taken ++ lines) (lines_of-feed line more at.no_feed)
      ∙ (sym (append_assoc (lines_ended taken) (line ∷ []) (lines_of more))
      ∙ ap (λ lines. lines ++ lines_of more) (sym (lines_ended-begun taken line at)))));
}

-- the lines that a line feed ends stand before all others, whatever comes next
pub lines_of-more : (front more : List ℕ) → (rest : List (List ℕ)) × (lines_of (front ++ more) ≡ lines_ended front ++ rest)
lines_of-more [] more = (lines_of more, refl)
lines_of-more (b ∷ front) more =
    let before = lines_of-more front more in
    elim (b == 10) as (λ t. (rest : List (List ℕ)) × ((if t then [] ∷ lines_of (front ++ more) else before_first b (lines_of (front ++ more))) ≡ (if t then [] ∷ lines_ended front else before_ended b (lines_ended front)) ++ rest)) [
      | true ↦ (before.0, ap (λ lines. [] ∷ lines) before.1)
      | false ↦ first b (lines_of (front ++ more)) (lines_ended front) before.0 before.1
    ] where
      first : (b : ℕ) (lines ended rest : List (List ℕ)) → lines ≡ ended ++ rest → (rest : List (List ℕ)) × (before_first b lines ≡ before_ended b ended ++ rest)
      first b lines [] rest e = (before_first b lines, refl)
      first b lines (line ∷ ended) rest e = (rest, ap (before_first b) e)

pub lines_seen-more : (front more : List ℕ) → (rest : List LineSeen) × (lines_seen (front ++ more) ≡ ended_seen front ++ rest)
lines_seen-more front more =
    let cut = lines_of-more front more in
    (map seen_of cut.0, ap (map seen_of) cut.1 ∙ map-append seen_of (lines_ended front) cut.0)

-- what is kept before the first byte
pub holds-start : (is_long : Bool) (bytes : List ℕ) → KeepsLine is_long bytes [] → HoldsPart is_long bytes []
holds-start is_long bytes kept = record { line = []; place = begun-start; kept = kept }

-- what is kept after a byte of the line
pub holds-byte : (old_long new_long : Bool) (old_bytes new_bytes taken : List ℕ) (byte : ℕ) → byte ≢ 10
    → ((line : List ℕ) → KeepsLine old_long old_bytes line → KeepsLine new_long new_bytes (line ++ byte ∷ []))
    → HoldsPart old_long old_bytes taken → HoldsPart new_long new_bytes (taken ++ byte ∷ [])
holds-byte old_long new_long old_bytes new_bytes taken byte n keeps h = record {
  line = h.line ++ byte ∷ [];
  place = begun-byte taken h.line byte n h.place;
  kept = keeps h.line h.kept;
}

-- what is kept after a line feed
pub holds-feed : (old_long new_long : Bool) (old_bytes new_bytes taken : List ℕ) (byte : ℕ) → byte ≡ 10
    → KeepsLine new_long new_bytes [] → HoldsPart old_long old_bytes taken → HoldsPart new_long new_bytes (taken ++ byte ∷ [])
holds-feed old_long new_long old_bytes new_bytes taken byte e kept h = record {
  line = [];
  place = subst (λ (byte : ℕ). HasBegun (taken ++ byte ∷ []) []) (sym e) (begun-feed taken h.line h.place);
  kept = kept;
}

-- a byte of the line ends none
pub ended_seen-byte : (is_long : Bool) (bytes taken : List ℕ) (byte : ℕ) → byte ≢ 10 → HoldsPart is_long bytes taken → ended_seen (taken ++ byte ∷ []) ≡ ended_seen taken ++ []
ended_seen-byte is_long bytes taken byte n h =
    ap (map seen_of) (lines_ended-byte taken h.line byte n h.place) ∙ sym (append-nil (ended_seen taken))

-- a line feed ends the line that is kept
pub ended_seen-feed : (is_long : Bool) (bytes taken : List ℕ) (byte : ℕ) (seen : LineSeen) → byte ≡ 10
    → ((line : List ℕ) → KeepsLine is_long bytes line → seen ≡ seen_of line)
    → HoldsPart is_long bytes taken → ended_seen (taken ++ byte ∷ []) ≡ ended_seen taken ++ seen ∷ []
ended_seen-feed is_long bytes taken byte seen e shows h =
    ap (λ byte. ended_seen (taken ++ byte ∷ [])) e
    ∙ (ap (map seen_of) (lines_ended-begun taken h.line h.place)
    ∙ (map-append seen_of (lines_ended taken) (h.line ∷ [])
    ∙ ap (λ line. ended_seen taken ++ line ∷ []) (sym (shows h.line h.kept))))

-- at the end of the input nothing is left of a line
pub lines_seen-none : (is_long : Bool) (bytes taken : List ℕ) → ((line : List ℕ) → KeepsLine is_long bytes line → line ≡ [])
    → HoldsPart is_long bytes taken → lines_seen taken ≡ ended_seen taken ++ []
lines_seen-none is_long bytes taken none h =
    ap lines_seen (sym (append-nil taken))
    ∙ (ap (map seen_of) (h.place.lines [])
    ∙ (ap (λ line. map seen_of (lines_ended taken ++ lines_of (line ++ []))) (none h.line h.kept)
    ∙ map-append seen_of (lines_ended taken) []))

-- or the last line is left
pub lines_seen-last : (is_long : Bool) (bytes taken : List ℕ) (seen : LineSeen)
    → ((line : List ℕ) → KeepsLine is_long bytes line → (line ≢ []) × (seen ≡ seen_of line))
    → HoldsPart is_long bytes taken → lines_seen taken ≡ ended_seen taken ++ seen ∷ []
lines_seen-last is_long bytes taken seen shows h =
    ap lines_seen (sym (append-nil taken))
    ∙ (ap (map seen_of) (h.place.lines [])
    ∙ (ap (λ line. map seen_of (lines_ended taken ++ lines_of line)) (append-nil h.line)
    ∙ (ap (λ lines. map seen_of (lines_ended taken ++ lines)) (lines_of-open h.line h.place.no_feed (shows h.line h.kept).0)
    ∙ (map-append seen_of (lines_ended taken) (h.line ∷ [])
    ∙ ap (λ line. ended_seen taken ++ line ∷ []) (sym (shows h.line h.kept).1)))))

-- one more byte of a piece
pub taken-more : (taken piece : List ℕ) (i : ℕ) → i < length piece → taken ++ take (i + 1) piece ≡ (taken ++ take i piece) ++ get_or piece i 0 ∷ []
taken-more taken piece i h =
    ap (λ bytes. taken ++ bytes) (take_more piece i 0 h) ∙ sym (append_assoc taken (take i piece) (get_or piece i 0 ∷ []))

-- what is kept after one more byte of a piece
pub holds-more : (is_long : Bool) (bytes taken piece : List ℕ) (i : ℕ) → i < length piece
    → HoldsPart is_long bytes ((taken ++ take i piece) ++ get_or piece i 0 ∷ []) → HoldsPart is_long bytes (taken ++ take (i + 1) piece)
holds-more is_long bytes taken piece i h held =
    subst (λ (taken : List ℕ). HoldsPart is_long bytes taken) (sym (taken-more taken piece i h)) held

-- which lines ended once one more byte of a piece is taken
pub ended_seen-more : (taken piece : List ℕ) (i : ℕ) (xs ys : List Exchange) → i < length piece
    → ended_seen (taken ++ take i piece) ≡ ended_seen taken ++ lines_answered xs
    → ended_seen ((taken ++ take i piece) ++ get_or piece i 0 ∷ []) ≡ ended_seen (taken ++ take i piece) ++ lines_answered ys
    → ended_seen (taken ++ take (i + 1) piece) ≡ ended_seen taken ++ lines_answered (xs ++ ys)
ended_seen-more taken piece i xs ys h before after =
    ap ended_seen (taken-more taken piece i h)
    ∙ (after ∙ (ap (λ lines. lines ++ lines_answered ys) before
    ∙ (append_assoc (ended_seen taken) (lines_answered xs) (lines_answered ys)
    ∙ ap (λ lines. ended_seen taken ++ lines) (sym (map-append (λ (x : Exchange). x.line) xs ys)))))
