-- A lane is told piece after piece.
use Rattle.std.proofs.Common.{◌≡◌, ℕ, ◌+◌, ◌≤◌, Bool, true, false, List, [], ◌∷◌, ◌++◌, length, take, drop, take-add, sym, ap, ◌∙◌, subst, append-nil, append_assoc, arith, inl, inr, ◌⊎◌, Option, Some, None, IfSome, Ok, Err, Contains}
use Rattle.std.proofs.lemmas.List.{length-append, length-drop, length-take, take_all, take-append-drop}
use Rattle.std.proofs.lemmas.List.Concat.{flat_map-append}
use Rattle.lk_base.specs.Checksum.{bits_of, bits_of_bytes}
use Rattle.lk_base.specs.Link.{Settings}
use Rattle.lk_outside.specs.Files.{Files, Told}
use Rattle.run_stops.specs.declared.stop.Stop.{Stop}
use Rattle.run_stops.specs.Stops.{IsOfStore}
use Rattle.run_stops.proofs.Moves.{if_told_by}
use Rattle.run_shell.specs.Open.{Open}
use Rattle.run_shell.specs.Outcome.{HoldsPart, LeavesOthers}
use Rattle.run_shell.specs.Outputs.{IsOpen, open_names, outs}
use Rattle.run_shell.proofs.Fills.{open_part, same_prefixes}
use Rattle.run_shell.proofs.Writing.{whole_leaves}
use Rattle.lane_receipts.specs.Taking.{AreAsBefore, IsPieceAt}
use Rattle.lane_receipts.proofs.TakenLanes.{widened}
use Rattle.lane_events.specs.declared.types.LaneEvent.{LaneEvent}
use Rattle.lane_events.specs.Events.{AreLaneEvents}
use Rattle.lane_events.specs.Inspection.{Finds, Inspects, InspectorView}
use Rattle.lane_events.proofs.EventsHold.{earlier_events_stay}
use Rattle.inspect_commands.specs.declared.lane.InspectedLane.{InspectedLane}
use Rattle.inspect_commands.specs.Table.{event_rows}
use Rattle.inspect_commands.specs.Telling.{HasTaken, HasTold, IsCutOff, IsTelling, TellsNext, TellsPiece}
use Rattle.inspect_commands.proofs.Tables.{given_more, given_none}

-- ---- bits of pieces

pub bits_append : (front back : List ℕ) → bits_of_bytes (front ++ back) ≡ bits_of_bytes front ++ bits_of_bytes back
bits_append front back = flat_map-append (bits_of 8) front back

bits_cut : (n : ℕ) (bytes : List ℕ) → bits_of_bytes bytes ≡ bits_of_bytes (take n bytes) ++ bits_of_bytes (drop n bytes)
bits_cut n bytes = ap bits_of_bytes (sym (take-append-drop n bytes)) ∙ bits_append (take n bytes) (drop n bytes)

module _ (n : ℕ) (piece bytes : List ℕ) (is : IsPieceAt n piece bytes) where
  pub piece_within : n ≤ length bytes → n + length piece ≤ length bytes
  piece_within le =
      let a : length piece ≡ length (take (length piece) (drop n bytes)) = ap length is.taken in
      let b = length-take (length piece) (drop n bytes) in
      let c = length-drop n bytes in
      omega (arith, le, a, b, c)

  piece_taken : take (n + length piece) bytes ≡ take n bytes ++ piece
  piece_taken = take-add n (length piece) bytes ∙ ap (λ (b : List ℕ). take n bytes ++ b) (sym is.taken)

  pub bits_taken : bits_of_bytes (take (n + length piece) bytes) ≡ bits_of_bytes (take n bytes) ++ bits_of_bytes piece
  bits_taken = ap bits_of_bytes piece_taken ∙ bits_append (take n bytes) piece

  -- all bits: those before the piece, those of the piece, and those after it
  pub bits_around : bits_of_bytes bytes ≡ bits_of_bytes (take n bytes) ++ (bits_of_bytes piece ++ bits_of_bytes (drop (n + length piece) bytes))
  bits_around =
      bits_cut (n + length piece) bytes ∙ ap (λ (b : List Bool). b ++ bits_of_bytes (drop (n + length piece) bytes)) bits_taken
      ∙ append_assoc (bits_of_bytes (take n bytes)) (bits_of_bytes piece) (bits_of_bytes (drop (n + length piece) bytes))

-- ---- the events of a piece

-- an inspector that was given bits: the events of more bits begin with theirs
stays : (v : InspectorView) (s : Settings) (bits more : List Bool) (one all : List LaneEvent) → Inspects v s bits → AreLaneEvents s bits one → AreLaneEvents s (bits ++ more) all → (rest : List LaneEvent) × (all ≡ one ++ rest)
stays v s bits more one all k a b = let long = k.stands.link.metaframe.0 in earlier_events_stay s bits more one all (omega (arith, long)) a b

-- nothing of a piece was told
pub none_found : (v : InspectorView) (piece : List ℕ) (s : Settings) (bits rest : List Bool) (events all : List LaneEvent) → Inspects v s bits → AreLaneEvents s bits events → AreLaneEvents s (bits ++ (bits_of_bytes piece ++ rest)) all
    → (others : List LaneEvent) × (all ≡ (events ++ []) ++ others)
none_found v piece s bits rest events all k a b =
    let (others, is) = stays v s bits (bits_of_bytes piece ++ rest) events all k a b in
    (others, is ∙ ap (λ (es : List LaneEvent). es ++ others) (sym (append-nil events)))

-- all of a piece was found
pub found_so : (v w : InspectorView) (piece : List ℕ) (found : List LaneEvent) → Finds v w (bits_of_bytes piece) [] found → (s : Settings) (bits : List Bool) (events : List LaneEvent) → Inspects v s bits → AreLaneEvents s bits events
    → Inspects w s (bits ++ bits_of_bytes piece) × AreLaneEvents s (bits ++ bits_of_bytes piece) (events ++ found)
found_so v w piece found finds s bits events k a = finds s bits events k (subst (λ (es : List LaneEvent). AreLaneEvents s bits es) (sym (append-nil events)) a)

pub all_found : (v w : InspectorView) (piece : List ℕ) (found : List LaneEvent) → Finds v w (bits_of_bytes piece) [] found → (s : Settings) (bits rest : List Bool) (events all : List LaneEvent) → Inspects v s bits → AreLaneEvents s bits events
    → AreLaneEvents s (bits ++ (bits_of_bytes piece ++ rest)) all → (others : List LaneEvent) × (all ≡ (events ++ found) ++ others)
all_found v w piece found finds s bits rest events all k a b =
    let (after, are) = found_so v w piece found finds s bits events k a in
    stays w s (bits ++ bits_of_bytes piece) rest (events ++ found) all after are (subst (λ (bs : List Bool). AreLaneEvents s bs all) (sym (append_assoc bits (bits_of_bytes piece) rest)) b)

-- ---- files that are no outputs

-- the lanes' files are as before the outputs were created
pub as_before : (opens : List Open) (given : List (List ℕ)) (was now : Option Files) (names : List (List ℕ)) → IsOpen opens given was now → ((q : List ℕ) → Contains names q → Contains (open_names opens) q → ⊥) → AreAsBefore names was now
as_before opens given was now names is apart = by was now (whole_leaves (open_names opens) is.done was now is.stand)
  where
    by : (x y : Option Files) → Told x y (LeavesOthers (λ files q. Contains (open_names opens) q)) → AreAsBefore names x y
    by None None t = t
    by None (Some v) t = absurd t
    by (Some u) None t = absurd t
    by (Some u) (Some v) t = λ q among. t q (apart q among)

-- ---- a lane

-- all events of the bytes that were taken come first
pub come_first : (s : Settings) (bytes : List ℕ) (events : List LaneEvent) (t : InspectedLane) → HasTaken s bytes events t → (all : List LaneEvent) → AreLaneEvents s (bits_of_bytes bytes) all → (rest : List LaneEvent) × (all ≡ events ++ rest)
come_first s bytes events t k all is =
    stays t.inspector s (bits_of_bytes (take t.offset bytes)) (bits_of_bytes (drop t.offset bytes)) events all k.inspects k.are (subst (λ (bs : List Bool). AreLaneEvents s bs all) (bits_cut t.offset bytes) is)

-- other names of the outputs and of the files, which are the same
pub cut_of : (s : Settings) (lane : ℕ) (bytes given : List ℕ) (outputs names others ns : List (List ℕ)) (why : Stop) (was now : Option Files) → outputs ≡ others → names ≡ ns → IsCutOff s lane bytes given outputs names why was now → IsCutOff s lane bytes given others ns why was now
cut_of s lane bytes given outputs names others ns why was now e f h =
    subst (λ (o : List (List ℕ)). IsCutOff s lane bytes given o ns why was now) e (subst (λ (n : List (List ℕ)). IsCutOff s lane bytes given outputs n why was now) f h)

module _ (s : Settings) (lane : ℕ) (bytes given : List ℕ) (Are : Type 0) (t : InspectedLane) (opens : List Open) (was now : Option Files) (at : IsTelling s lane bytes given Are t opens was now) where
  -- no byte is left
  pub told_all : (Then : Type 0) (now' : Option Files) → now' ≡ now → (Are → Then × (length bytes ≤ t.offset)) → HasTold s lane bytes given Then t opens was now'
  told_all Then now' same ends = record {
    events = at.events;
    stand = subst (λ x. IsOpen opens ((given ++ event_rows lane at.events) ∷ []) was x) (sym same) at.stand;
    count = at.count;
    taken = if_told_by was (λ files (are, k).
        let (then, le) = ends are in
        let whole : take t.offset bytes ≡ bytes = take_all t.offset bytes le in
        (then, subst (λ (bs : List ℕ). Inspects t.inspector s (bits_of_bytes bs)) whole k.inspects, subst (λ (bs : List ℕ). AreLaneEvents s (bits_of_bytes bs) at.events) whole k.are)) at.taken;
  }

  -- the next bytes could not be read
  pub unread : (names : List (List ℕ)) (why : Stop) (now' : Option Files) → now' ≡ now → (Are → IsOfStore (Contains names) why) → IsCutOff s lane bytes given (open_names opens) names why was now'
  unread names why now' same cause = record {
    events = at.events;
    part = subst (λ x. Told was x (HoldsPart (outs (open_names opens) ((given ++ event_rows lane at.events) ∷ [])))) (sym same)
        (open_part opens ((given ++ event_rows lane at.events) ∷ []) ((given ++ event_rows lane at.events) ∷ []) was now (same_prefixes ((given ++ event_rows lane at.events) ∷ [])) at.stand);
    stops = if_told_by was (λ files (are, k). (widened (Contains names) (λ q. Contains (open_names opens) q ⊎ Contains names q) why (λ q e. inr e) (cause are), come_first s bytes at.events t k)) at.taken;
  }

  module _ (Then : Type 0) (piece : List ℕ) (read : Are → Then × IsPieceAt t.offset piece bytes) where
    -- the events of a piece were told
    pub piece_told : (u : InspectedLane) (later : List Open) (now' : Option Files) → u.offset ≡ t.offset + length piece → TellsPiece {T = Unit {0}} lane piece (given ++ event_rows lane at.events) t u opens later (Ok tt) was now'
        → IsTelling s lane bytes given Then u later was now'
    piece_told u later now' moved (found, finds, count, stand) = record {
      events = at.events ++ found;
      stand = subst (λ (b : List ℕ). IsOpen later (b ∷ []) was now') (given_more given lane at.events found) stand;
      count = (let a = at.count in let l = length-append at.events found in omega (arith, count, a, l));
      taken = if_told_by was (λ files (are, k).
          let (then, is) = read are in
          let (inspects, events) = found_so t.inspector u.inspector piece found finds s (bits_of_bytes (take t.offset bytes)) at.events k.inspects k.are in
          let bits : bits_of_bytes (take u.offset bytes) ≡ bits_of_bytes (take t.offset bytes) ++ bits_of_bytes piece = ap (λ n. bits_of_bytes (take n bytes)) moved ∙ bits_taken t.offset piece bytes is in (
            then,
            record {
              within = (let w = piece_within t.offset piece bytes is k.within in omega (arith, w, moved));
              inspects = subst (λ (bs : List Bool). Inspects u.inspector s bs) (sym bits) inspects;
              are = subst (λ (bs : List Bool). AreLaneEvents s bs (at.events ++ found)) (sym bits) events;
            },
          )) at.taken;
    }

    -- or were not
    pub piece_cut : (T : Type 0) (names : List (List ℕ)) (u : InspectedLane) (later : List Open) (why : Stop) (now' : Option Files) → TellsPiece {T = T} lane piece (given ++ event_rows lane at.events) t u opens later (Err why) was now'
        → IsCutOff s lane bytes given (open_names opens) names why was now'
    piece_cut T names u later why now' (found, store, part, first) = record {
      events = at.events ++ found;
      part = subst (λ (b : List ℕ). Told was now' (HoldsPart (outs (open_names opens) (b ∷ [])))) (given_more given lane at.events found) part;
      stops = if_told_by was (λ files (are, k).
          let (then, is) = read are in (
            widened (Contains (open_names opens)) (λ q. Contains (open_names opens) q ⊎ Contains names q) why (λ q e. inl e) store,
            λ all events. first s (bits_of_bytes (take t.offset bytes)) (bits_of_bytes (drop (t.offset + length piece) bytes)) at.events all k.inspects k.are
                (subst (λ (bs : List Bool). AreLaneEvents s bs all) (bits_around t.offset piece bytes is) events),
          )) at.taken;
    }

-- nothing was taken of a lane yet
pub none_told : (s : Settings) (lane : ℕ) (bytes given : List ℕ) (Are : Type 0) (t : InspectedLane) (opens : List Open) (was now : Option Files) → t.offset ≡ 0 → t.events ≡ 0 → Inspects t.inspector s [] → AreLaneEvents s [] []
    → IsOpen opens (given ∷ []) was now → IfSome was (λ files. Are) → IsTelling s lane bytes given Are t opens was now
none_told s lane bytes given Are t opens was now start none inspects events stand are = record {
  events = [];
  stand = subst (λ (b : List ℕ). IsOpen opens (b ∷ []) was now) (given_none given lane) stand;
  count = none;
  taken = if_told_by was (λ files a.
      let nothing : [] ≡ bits_of_bytes (take t.offset bytes) = ap (λ n. bits_of_bytes (take n bytes)) (sym start) in (
        a,
        record {
          within = omega (arith, start);
          inspects = subst (λ (bs : List Bool). Inspects t.inspector s bs) nothing inspects;
          are = subst (λ (bs : List Bool). AreLaneEvents s bs []) nothing events;
        },
      )) are;
}

-- a lane is over, or goes on
pub is_over : (s : Settings) (lane : ℕ) (bytes given : List ℕ) (Are : Type 0) (names : List (List ℕ)) (next : Bool) (t : InspectedLane) (before opens : List Open) (was now : Option Files) → next ≡ false → TellsNext s lane bytes given Are names (Ok next) t before opens was now
    → HasTold s lane bytes given Are t opens was now
is_over s lane bytes given Are names next t before opens was now e h = subst (λ (b : Bool). TellsNext s lane bytes given Are names (Ok b) t before opens was now) e h

pub goes_on : (s : Settings) (lane : ℕ) (bytes given : List ℕ) (Are : Type 0) (names : List (List ℕ)) (next : Bool) (t : InspectedLane) (before opens : List Open) (was now : Option Files) → next ≡ true → TellsNext s lane bytes given Are names (Ok next) t before opens was now
    → IsTelling s lane bytes given Are t opens was now
goes_on s lane bytes given Are names next t before opens was now e h = subst (λ (b : Bool). TellsNext s lane bytes given Are names (Ok b) t before opens was now) e h
