mod ThirdWord
