use Rattle.std.proofs.Common.{◌++◌, ◌∙◌, ap, sym, inl}
use Rattle.client_lang.specs.Replies.{word_text}
use Rattle.client_lang.proofs.Replying.{by_word}
use Rattle.client_lang.proofs.reply.reply_text.Goals as goal

-- any other answer is its word
pub returns-in_default : goal.returns-in_default
returns-in_default c =
    let other = c.in_default in
    let worded = by_word c.args.answer.now other.not-OkEnds other.not-OkPassword other.not-OkSession other.not-OkFactors other.not-OkFiles other.not-OkBytes other.not-Delayed other.not-TreeLost other.not-Damaged in
    record {
      text =
          inl (c.append_word.ensures.text
          ∙ ap (λ text. c.args.out.now.items ++ text) (ap word_text c.word_of.ensures.text ∙ sym worded));
      room = c.append_word.ensures.room;
    }
