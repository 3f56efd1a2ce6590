mod WordsLaw
