mod AllWords
