-- `Answers`: a call that gives an answer, returns its number and writes its report is answered; `Once`: two outcomes with one answer
-- are the same.
mod Answers
mod Once
