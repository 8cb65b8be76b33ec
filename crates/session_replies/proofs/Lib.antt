mod ReplyLemmas
