use Rattle.std.proofs.Common.{rules, ◌≡◌, ◌+◌, ◌<◌, ℕ, List, [], ◌∷◌, ◌++◌, length, drop, take, refl, sym, ap, ◌∙◌, arith, subst, length-drop}
use Rattle.words_files.specs.declared.file_word.FileWord.{FileWord}
use Rattle.word_text.specs.Lines.{ended}
use Rattle.words_files.specs.FileWord.{nine_bytes}
use Rattle.word_text.specs.WordLines.{IsWordLine, IsSized}
use Rattle.word_text.specs.Answers.{ListsWords}
use Rattle.word_text.proofs.Kept.{kept-put, kept-by}
use Rattle.word_text.proofs.Growing.{WordsBehind, ReadSoFar, no-words, one-word-behind, all-listed, read-none, read-more, read-refused, read-all, first-nine}
use Rattle.word_text.proofs.text_of_words.put_words_text.Goals as goal

more : (old mid new bytes left behind : List ℕ) (count : ℕ) (word : FileWord) → IsSized word → take 9 left ≡ nine_bytes word → behind ≡ drop 9 left → ((line : List ℕ) × IsWordLine word line × (new ≡ mid ++ ended line)) → WordsBehind old mid bytes left count → WordsBehind old new bytes behind (count + 1)
more old mid new bytes left behind count word s e f (line, k, g) w =
    one-word-behind old mid new bytes left behind line count word s k (first-nine left word e ∙ ap (λ (l : List ℕ). nine_bytes word ++ l) (sym f)) g w

whole : (bytes left old new : List ℕ) (offset count : ℕ) → length left ≡ 0 → WordsBehind old new bytes left count → ReadSoFar bytes left offset → ListsWords bytes old new count
whole bytes [] old new offset count h w r =
    let (words, accepted) = read-all bytes [] offset refl r in
    record { text = w.text; listing = all-listed w.text bytes count w.listed; counted = w.listed.counted; put = w.put; read = words; accepted = accepted }
whole bytes (x ∷ xs) old new offset count h w r = absurd (omega arith)

pub loop-rest-init : goal.loop-rest-init
loop-rest-init c = record {
  listed = no-words c.args.out.now.items c.put.new.line.items c.args.bytes.now (c.in_ok-put.ensures {u = tt}).ok;
  read = read-none c.args.bytes.now;
  stands = omega arith;
  few = omega arith;
}

pub returns-in-Err-clause-answer : goal.returns-in-Err-clause-answer
returns-in-Err-clause-answer c =
    let some : 0 < length c.loop-rest.rest.now = search rules in
    read-refused c.args.bytes.now c.loop-rest.rest.now c.loop-rest.offset c.in-Err.refusal some (sym c.in-Err.ensures.refusal) c.loop-rest.invariant.read

pub returns-in-Err-clause-kept : goal.returns-in-Err-clause-kept
returns-in-Err-clause-kept c = kept-put c.args.out.now.items c.loop-rest.invariant.listed.text c.loop-rest.out.items c.loop-rest.invariant.listed.put

pub returns-in_err-put_word-clause-kept : goal.returns-in_err-put_word-clause-kept
returns-in_err-put_word-clause-kept c = kept-by c.args.out.now.items c.loop-rest.invariant.listed.text c.loop-rest.out.items c.put_word.new.text.items c.loop-rest.invariant.listed.put (c.in_err-put_word.ensures {u = tt}).err

pub loop-rest-preserved : goal.loop-rest-preserved
loop-rest-preserved c =
    let some : 0 < length c.loop-rest.rest.now = search rules in
    let sized = c.in-Ok.ensures.sized in
    let nine = c.in-Ok.ensures.bytes in
    let enough = c.in-Ok.ensures.whole in
    let fewer = ap length c.after-rest.ensures ∙ length-drop 9 c.loop-rest.rest.now in
    record {
      listed = more c.args.out.now.items c.loop-rest.out.items c.put_word.new.text.items c.args.bytes.now c.loop-rest.rest.now c.after-rest.result.now c.loop-rest.count c.in-Ok.word sized nine c.after-rest.ensures (c.in_ok-put_word.ensures {u = tt}).ok c.loop-rest.invariant.listed;
      read = subst (λ (l : List ℕ). ReadSoFar c.args.bytes.now l (c.loop-rest.offset + 9)) (sym c.after-rest.ensures) (read-more c.args.bytes.now c.loop-rest.rest.now c.loop-rest.offset c.in-Ok.word some nine c.loop-rest.invariant.read);
      stands = omega (arith, c.loop-rest.invariant.stands, fewer, enough);
      few = omega (arith, c.loop-rest.invariant.few, fewer, enough);
    }

pub returns-clause-answer : goal.returns-clause-answer
returns-clause-answer c =
    let none : length c.loop-rest.rest.now ≡ 0 = search rules in
    whole c.args.bytes.now c.loop-rest.rest.now c.args.out.now.items c.loop-rest.out.items c.loop-rest.offset c.loop-rest.count none c.loop-rest.invariant.listed c.loop-rest.invariant.read

pub returns-clause-kept : goal.returns-clause-kept
returns-clause-kept c = kept-put c.args.out.now.items c.loop-rest.invariant.listed.text c.loop-rest.out.items c.loop-rest.invariant.listed.put
